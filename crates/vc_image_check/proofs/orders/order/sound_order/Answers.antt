use Rattle.vc_base.proofs.Common.{◌≡◌, ℕ, true, length, vec_len, contains, sym, refl, ap, ◌∙◌, subst, arith, true≢false}
use Rattle.vc_base.specs.Cells.{IsHolder}
use Rattle.vc_dtord.specs.Nodes.{node_store}
use Rattle.vc_image_check.specs.Walks.Spelled.{IsSpelled}
use Rattle.vc_image_check.specs.Lists.Ascending.{IsAscending}
use Rattle.vc_image_check.specs.Orders.Sound.{ArePlain, IsSoundOrder}
use Rattle.vc_image_check.proofs.Ordering.{spelled-holders, spelled-same}
use Rattle.vc_image_check.proofs.orders.order.sound_order.Given.{Over}
use Rattle.vc_image_check.proofs.orders.order.sound_order.Goals as goal
use Rattle.vc_image_check.proofs.orders.order.sound_order.Goals.{In-Some}

-- the names are those of the tree at the root: each of a holder, and those of any sound order
spelled : (g : Over) (c : In-Some g) → IsSpelled (node_store (g.N.Holders.blocks c.args.holders.now)) 0 c.args.root.0 c.in-Some.names.items
spelled g c = rw c.in-Some.is at c.in_ok-names.ensures.some

holder : (g : Over) (c : In-Some g) (a : ℕ) → contains c.in-Some.names.items a ≡ true → IsHolder (g.N.Holders.blocks c.args.holders.now) a
holder g c = spelled-holders (g.N.Holders.blocks c.args.holders.now) c.args.root.0 c.in-Some.names.items (spelled g c)

same : (g : Over) (c : In-Some g) (h : IsSoundOrder (g.D.DictDisc.rules c.args.kind.now) (g.N.Holders.blocks c.args.holders.now) c.args.alone c.args.count c.args.root) → h.names ≡ c.in-Some.names.items
same g c h = spelled-same (g.N.Holders.blocks c.args.holders.now) c.args.root.0 c.in-Some.names.items h.names (spelled g c) h.tree

long : (g : Over) (c : In-Some g) → length c.in-Some.names.items ≡ vec_len c.in-Some.names
long g c = omega (arith, c.in-Some.names.ok.0)

pub are_plain-requires : goal.are_plain-requires
are_plain-requires g c = λ a w. holder g (goal.at.are_plain-requires g c).In-Some a (subst (λ z. contains z a ≡ true) c.deref.ensures.value w)

pub returns-then-len-count-clause-none : goal.returns-then-len-count-clause-none
returns-then-len-count-clause-none g c = λ h.
    let s = (goal.at.returns-then-len-count-clause-none g c).In-Some in
    c.if-len-count.true (c.len.ensures ∙ sym (long g s) ∙ ap length (sym (same g s h)) ∙ h.many)

pub returns-then-not-are_plain-clause-none : goal.returns-then-not-are_plain-clause-none
returns-then-not-are_plain-clause-none g c = λ h.
    let all = subst (ArePlain (g.N.Holders.blocks c.args.holders.now)) (same g (goal.at.returns-then-not-are_plain-clause-none g c).In-Some h ∙ sym c.deref.ensures.value) h.plain in
    true≢false (sym (c.are_plain.ensures.1 all) ∙ c.if-not-are_plain.true)

pub is_ascending-requires : goal.is_ascending-requires
is_ascending-requires g c = λ a w. holder g (goal.at.is_ascending-requires g c).In-Some a (subst (λ z. contains z a ≡ true) c.deref-2.ensures.value w)

pub returns-then-not-is_ascending-clause-none : goal.returns-then-not-is_ascending-clause-none
returns-then-not-is_ascending-clause-none g c = λ h.
    let all = subst (IsAscending (g.D.DictDisc.rules c.args.kind.now) (g.N.Holders.blocks c.args.holders.now) c.args.alone)
    (same g (goal.at.returns-then-not-is_ascending-clause-none g c).In-Some h ∙ sym c.deref-2.ensures.value) h.ascending in
    true≢false (sym (c.is_ascending.ensures.order.1 all) ∙ c.if-not-is_ascending.true)

pub returns-clause-some : goal.returns-clause-some
returns-clause-some g c =
    let s = (goal.at.returns-clause-some g c).In-Some in (
      record {
        names = c.in-Some.names.items;
        tree = spelled g s;
        distinct = rw c.in-Some.is at c.in_ok-names.ensures.distinct;
        many = long g s ∙ sym c.len.ensures ∙ c.if-len-count.false;
        plain = subst (ArePlain (g.N.Holders.blocks c.args.holders.now)) c.deref.ensures.value (c.are_plain.ensures.0 c.if-not-are_plain.false);
        ascending = subst (IsAscending (g.D.DictDisc.rules c.args.kind.now) (g.N.Holders.blocks c.args.holders.now) c.args.alone) c.deref-2.ensures.value
            (c.is_ascending.ensures.order.0 c.if-not-is_ascending.false);
      },
      refl,
    )
