use Rattle.vc_base.proofs.Common.{◌≡◌, true, false, ◌&&◌, length, nat_le, sym, ap, ◌∙◌, arith, nat_tests, length-map, Discipline}
use Rattle.vc_steps.specs.Told.{rules_in}
use Rattle.vc_steps.proofs.RefusedAt.{AskedAt, why-exists, why-full, why-kind, why-method}
use Rattle.vc_steps.proofs.session.Session.dict_refused.Given as given
use Rattle.vc_steps.proofs.session.Session.dict_refused.Goals as goal
use Rattle.vc_steps.proofs.session.Session.dict_refused.Goals.{After-len, Start}

abbrev meaning : (g : given.Over) → (x : g.dyn-1.0.I) × (g.dyn-1.0.entry x).0.Denot → Discipline
meaning g p = (g.dyn-1.0.entry p.0).1.state p.1

-- what is asked for
abbrev asked : (g : given.Over) (c : Start g) → AskedAt c.args.self.now.homes.entries c.args.self.now.labels.items
asked g c = record {
  kinds = rules_in g.D.DictDisc.rules c.args.kinds.now.items;
  links = c.args.self.now.paths;
  ds = c.args.self.now.dicts.entries;
  name = c.args.name.now;
  j = c.args.j;
  kind = c.args.kind;
  named = c.requires.named;
  within = c.requires.within;
}

-- the kinds are counted
counted : (g : given.Over) (c : After-len g) → (nat_le 1 c.args.kind && nat_le c.args.kind (length (rules_in g.D.DictDisc.rules c.args.kinds.now.items))) ≡ (nat_le 1 c.args.kind && nat_le c.args.kind c.len.result)
counted g c =
    ap (λ n. nat_le 1 c.args.kind && nat_le c.args.kind n) (length-map c.args.kinds.now.items g.D.DictDisc.rules ∙ (sym c.args.kinds.now.ok.0 ∙ sym c.len.ensures))

pub returns-then-contains_key : goal.returns-then-contains_key
returns-then-contains_key g c =
    let at = goal.at.returns-then-contains_key g c in
    why-exists (meaning g) c.args.self.now.homes.entries c.args.self.now.labels.items (asked g at.Start) (sym c.if-contains_key.ensures)

pub returns-then-not-is_kind : goal.returns-then-not-is_kind
returns-then-not-is_kind g c =
    let at = goal.at.returns-then-not-is_kind g c in
    why-kind (meaning g) c.args.self.now.homes.entries c.args.self.now.labels.items (asked g at.Start) (sym c.if-contains_key.ensures) (counted g at.After-len ∙ sym c.if-not-is_kind.ensures)

pub returns-then-not-is_best : goal.returns-then-not-is_best
returns-then-not-is_best g c =
    let at = goal.at.returns-then-not-is_best g c in
    why-method (meaning g) c.args.self.now.homes.entries c.args.self.now.labels.items (asked g at.Start) (sym c.if-contains_key.ensures) (counted g at.After-len ∙ sym c.if-not-is_kind.ensures)
    c.index.result.now c.index.ensures (sym c.if-not-is_best.ensures)

pub returns-then-len-ge-DICT_LIMIT : goal.returns-then-len-ge-DICT_LIMIT
returns-then-len-ge-DICT_LIMIT g c =
    let at = goal.at.returns-then-len-ge-DICT_LIMIT g c in
    let many : nat_le 256 (length c.args.self.now.dicts.entries) ≡ true = grind (arith, nat_tests, c.if-len-ge-DICT_LIMIT.true, c.len-2.ensures.len) in
    why-full (meaning g) c.args.self.now.homes.entries c.args.self.now.labels.items (asked g at.Start) (sym c.if-contains_key.ensures) (counted g at.After-len ∙ sym c.if-not-is_kind.ensures)
    c.index.result.now c.index.ensures (sym c.if-not-is_best.ensures) true many

pub returns : goal.returns
returns g c =
    let at = goal.at.returns g c in
    let many : nat_le 256 (length c.args.self.now.dicts.entries) ≡ false = grind (arith, nat_tests, c.if-len-ge-DICT_LIMIT.false, c.len-2.ensures.len) in
    why-full (meaning g) c.args.self.now.homes.entries c.args.self.now.labels.items (asked g at.Start) (sym c.if-contains_key.ensures) (counted g at.After-len ∙ sym c.if-not-is_kind.ensures)
    c.index.result.now c.index.ensures (sym c.if-not-is_best.ensures) false many
