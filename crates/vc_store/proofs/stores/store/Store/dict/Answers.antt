use Rattle.vc_base.proofs.Common.{rules, ◌≡◌, Some, [], ◌∷◌, ◌++◌, length, sym, ap, ◌∙◌, subst, HasOut, Discipline}
use Rattle.vc_seg.specs.Answer.{IsRefusal}
use Rattle.vc_best.specs.Cells.{cells_in}
use Rattle.vc_best.specs.Parts.{disc_in, segments_in}
use Rattle.vc_objects.specs.Leaves.{KeepsDisc}
use Rattle.vc_objects.specs.Promises.{Opens, opening_in}
use Rattle.vc_objects.proofs.Leaving.{keeps-same}
use Rattle.vc_store.specs.Reading.{no_objects}
use Rattle.vc_store.specs.Stores.Stores.{OthersStay, disc_of, kind_at, lent_to, shown}
use Rattle.vc_store.proofs.Added.{all-still, empty-added, kind-last, number-more, others-added, stays-added, stays-still}
use Rattle.vc_store.proofs.stores.store.Store.dict.Given.{Over}
use Rattle.vc_store.proofs.stores.store.Store.dict.Goals as goal

-- what a region's boxed discipline means
abbrev meaning : (g : Over) → (x : g.dyn-1.0.I) × (g.dyn-1.0.entry x).0.Denot → Discipline
meaning g p = (goal.SegDisc-dyn g p).state p.1

pub open-requires : goal.open-requires
open-requires g c =
    record { lent = subst (λ b. HasOut (disc_in (meaning g) b) (segments_in b)) (sym c.make_room.ensures.best) c.requires.open.lent }

-- with no room for one more
pub returns-then-is_err-clause-same : goal.returns-then-is_err-clause-same
returns-then-is_err-clause-same g c =
    let s = c.args.self.now in
    let s' = c.make_room.new.self in
    let room = c.make_room.ensures in
    all-still (meaning g) g.D.DictDisc.rules s s' c.requires.open room.dicts room.kinds (ap cells_in room.best)
    (keeps-same (disc_of s (meaning g)) (disc_of s' (meaning g)) (lent_to s) (lent_to s') (ap (disc_in (meaning g)) room.best) (ap segments_in room.best))

pub returns-then-is_err-clause-stays : goal.returns-then-is_err-clause-stays
returns-then-is_err-clause-stays g c =
    let s = c.args.self.now in
    let s' = c.make_room.new.self in
    let room = c.make_room.ensures in
    stays-still (meaning g) g.D.DictDisc.rules s s' c.requires.open room.dicts room.kinds (ap cells_in room.best)
    (keeps-same (disc_of s (meaning g)) (disc_of s' (meaning g)) (lent_to s) (lent_to s') (ap (disc_in (meaning g)) room.best) (ap segments_in room.best))

-- with no segment for its table
pub returns-in-Err : goal.returns-in-Err
returns-in-Err g c =
    let s = c.args.self.now in
    let room = c.make_room.ensures in
    let err = c.in-Err.ensures.err in
    let cells = err.1.cells ∙ ap cells_in room.best in
    let lends = subst (λ b. KeepsDisc (disc_in (meaning g) b) (disc_in (meaning g) c.open.new.best) (segments_in b) (segments_in c.open.new.best)) room.best err.1.leaves.disc in
    record {
      number = tt;
      numbers = tt;
      empty = tt;
      kind = tt;
      others = tt;
      refused = subst (λ b. IsRefusal (opening_in (meaning g) b c.args.method) c.in-Err.why) room.best err.0;
      back = search rules;
      same = all-still (meaning g) g.D.DictDisc.rules s _ c.requires.open room.dicts room.kinds cells lends;
      stays = stays-still (meaning g) g.D.DictDisc.rules s _ c.requires.open room.dicts room.kinds cells lends;
    }

pub returns-in-Ok : goal.returns-in-Ok
returns-in-Ok g c =
    let s = c.args.self.now in
    let s' = c.add.new.self in
    let d = c.in-Ok.dict in
    let k = c.args.kind in
    let rules_by = g.D.DictDisc.rules in
    let room = c.make_room.ensures in
    let add = c.add.ensures in
    let dicts = add.dicts ∙ ap (λ ds. ds ++ Some d ∷ []) room.dicts in
    let kinds = add.kinds ∙ ap (λ ks. ks ++ k ∷ []) room.kinds in
    let opens = subst (λ b. Opens (meaning g) (rules_by k) c.args.method 0 b d s'.best) room.best
    (subst (λ b. Opens (meaning g) (rules_by k) c.args.method 0 c.make_room.new.self.best d b) (sym add.best) c.in-Ok.ensures.ok) in
    let number = c.len-number.ensures ∙ (c.make_room.new.self.dicts.ok.0 ∙ ap length room.dicts) in
    record {
      number = number;
      numbers = number-more (meaning g) rules_by s s' d k c.args.method c.requires.open dicts kinds opens;
      empty =
          subst (λ n. shown s' n ≡ Some (no_objects c.args.method)) (sym number)
          (empty-added (meaning g) rules_by s s' d k c.args.method c.requires.open dicts kinds opens);
      kind =
          subst (λ n. kind_at s' n ≡ Some k) (sym number) (kind-last (meaning g) rules_by s s' d k c.args.method c.requires.open dicts kinds opens);
      others =
          subst (λ n. OthersStay s s' n) (sym number) (others-added (meaning g) rules_by s s' d k c.args.method c.requires.open dicts kinds opens);
      refused = tt;
      back = tt;
      same = tt;
      stays = stays-added (meaning g) rules_by s s' d k c.args.method c.requires.open dicts kinds opens;
    }
