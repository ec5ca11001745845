use Rattle.vc_base.proofs.Common.{◌≡◌, ℕ, List, Vec, Global, ◌-◌, ◌++◌, ◌∷◌, [], sym, ap, ◌∙◌, subst, arith, length, vec_len, nil_from_length}
use Rattle.vc_image_check.specs.declared.walks.walk.Item.TheVariants.{Part}
use Rattle.vc_splay.specs.Store.{Store}
use Rattle.vc_image_check.specs.Walks.Spelled.{IsSpelled}
use Rattle.vc_image_check.specs.declared.walks.walk.Item.{Item}
use Rattle.vc_image_check.proofs.Apart.{child-node, node-child, parted, parted-none, spelled-distinct, spelled-of, spelled-parted}
use Rattle.vc_image_check.proofs.Pending.{Walked, walked-end, walked-few, walked-name, walked-node, walked-none, walked-not, walked-start}
use Rattle.vc_image_check.proofs.walks.walk.in_order.Goals as goal

pub loop-item-init : goal.loop-item-init
loop-item-init g c =
    let s = parted (g.N.Links.store c.args.nodes.now) in
    let met : [] ≡ c.new-names.result.items = sym c.new-names.ensures.items in
    let pending : Part 0 c.args.root ∷ [] ≡ c.push.new.self.items = sym (c.in_ok-push.ensures.items ∙ ap (λ z. z ++ Part 0 c.args.root ∷ []) c.new-pending.ensures.items) in
    subst (λ z. Walked s c.args.root c.args.most c.args.most c.new-names.result.items z) pending
    (subst (λ z. Walked s c.args.root c.args.most c.args.most z (Part 0 c.args.root ∷ [])) met (walked-start s c.args.root c.args.most))

pub loop-item-preserved-in-Continue-branch-2 : goal.loop-item-preserved-in-Continue-branch-2
loop-item-preserved-in-Continue-branch-2 g c =
    walked-name (parted (g.N.Links.store c.args.nodes.now)) c.args.root c.args.most c.loop-item.left_over c.in-Name.name c.loop-item.names.items c.push-in-Name.new.self.items c.loop-item.pending.items c.pop.new.self.items
    (c.in-Some.ensures.items ∙ ap (λ z. c.pop.new.self.items ++ z ∷ []) c.in-Name.is)
    c.in_ok-push-in-Name.ensures.items
    c.loop-item.invariant

pub loop-item-preserved : goal.loop-item-preserved
loop-item-preserved g c =
    walked-none (parted (g.N.Links.store c.args.nodes.now)) (parted-none (g.N.Links.store c.args.nodes.now) (g.met.N.Links.none c.args.nodes.now)) c.args.root c.args.most c.loop-item.left_over c.in-Part.up c.in-Part.at c.loop-item.names.items c.loop-item.pending.items c.pop.new.self.items
    (c.in-Some.ensures.items ∙ ap (λ z. c.pop.new.self.items ++ z ∷ []) c.in-Part.is)
    c.loop-item.invariant c.if-at-ne0.false

pub returns-then-left_over-eq0-clause-none : goal.returns-then-left_over-eq0-clause-none
returns-then-left_over-eq0-clause-none g c = λ zs h d.
    walked-few (parted (g.N.Links.store c.args.nodes.now)) (parted-none (g.N.Links.store c.args.nodes.now) (g.met.N.Links.none c.args.nodes.now)) c.args.root c.args.most c.loop-item.left_over c.in-Part.up c.in-Part.at c.loop-item.names.items c.loop-item.pending.items c.pop.new.self.items
    (c.in-Some.ensures.items ∙ ap (λ z. c.pop.new.self.items ++ z ∷ []) c.in-Part.is)
    c.loop-item.invariant c.if-at-ne0.true c.if-left_over-eq0.true zs (spelled-parted (g.N.Links.store c.args.nodes.now) 0 c.args.root zs h d)

pub returns-in-None-clause-none : goal.returns-in-None-clause-none
returns-in-None-clause-none g c = λ zs h d. absurd
    (walked-not (parted (g.N.Links.store c.args.nodes.now)) (parted-none (g.N.Links.store c.args.nodes.now) (g.met.N.Links.none c.args.nodes.now)) c.args.root c.args.most c.loop-item.left_over c.in-Part.up c.in-Part.at c.loop-item.names.items c.loop-item.pending.items c.pop.new.self.items
    (c.in-Some.ensures.items ∙ ap (λ z. c.pop.new.self.items ++ z ∷ []) c.in-Part.is)
    c.loop-item.invariant c.if-at-ne0.true
    (λ l r n. c.in-None.ensures.none l r (node-child (g.N.Links.store c.args.nodes.now) c.in-Part.up c.in-Part.at l r n))
    zs (spelled-parted (g.N.Links.store c.args.nodes.now) 0 c.args.root zs h d))

pub loop-item-preserved-in-Continue-branch-3 : goal.loop-item-preserved-in-Continue-branch-3
loop-item-preserved-in-Continue-branch-3 g c =
    walked-node (parted (g.N.Links.store c.args.nodes.now)) (parted-none (g.N.Links.store c.args.nodes.now) (g.met.N.Links.none c.args.nodes.now)) c.args.root c.args.most c.loop-item.left_over c.in-Part.up c.in-Part.at c.loop-item.names.items c.loop-item.pending.items c.pop.new.self.items
    (c.in-Some.ensures.items ∙ ap (λ z. c.pop.new.self.items ++ z ∷ []) c.in-Part.is)
    c.loop-item.invariant c.in-Some-children.left c.in-Some-children.right (c.loop-item.left_over - 1) c.put.new.pending.items
    c.if-at-ne0.true (let some = c.if-left_over-eq0.false in omega (arith, some)) (child-node (g.N.Links.store c.args.nodes.now) c.in-Part.up c.in-Part.at c.in-Some-children.left c.in-Some-children.right c.in-Some-children.ensures.some) c.in_ok-put-in-Some-children.ensures

-- what was met at the end
met : (s : Store) (root most left_over : ℕ) (names : List ℕ) (pending : Vec Item Global) → vec_len pending ≡ 0 → Walked (parted s) root most left_over names pending.items → IsSpelled (parted s) 0 root names
met s root most left_over names pending none w =
    let same : vec_len pending ≡ length pending.items = omega (arith, pending.ok.0) in
    walked-end (parted s) root most left_over names pending.items (nil_from_length pending.items (sym same ∙ none)) w

pub returns-clause-some : goal.returns-clause-some
returns-clause-some g c =
    let s = g.N.Links.store c.args.nodes.now in
    spelled-of s 0 c.args.root c.loop-item.names.items
    (met s c.args.root c.args.most c.loop-item.left_over c.loop-item.names.items c.loop-item.pending c.in_default.ensures.cases.0 c.loop-item.invariant)

pub returns-clause-distinct : goal.returns-clause-distinct
returns-clause-distinct g c =
    let s = g.N.Links.store c.args.nodes.now in
    spelled-distinct s (g.met.N.Links.none c.args.nodes.now) 0 c.args.root c.loop-item.names.items
    (met s c.args.root c.args.most c.loop-item.left_over c.loop-item.names.items c.loop-item.pending c.in_default.ensures.cases.0 c.loop-item.invariant)
