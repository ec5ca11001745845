use Rattle.vc_base.proofs.Common.{◌≡◌, ℕ, List, length, ◌≤◌, get_or_default, ◌-◌, ◌%◌, Bool, true, false, get_or, sym, refl, ap, ◌∙◌, arith, true≢false}
use Rattle.vc_image_check.proofs.Knotting.{walking-end, walking-next, walking-not, walking-other, walking-start}
use Rattle.vc_image_check.proofs.lists.chain.is_sound_chain.Goals as goal
use Rattle.vc_image_check.proofs.lists.chain.is_sound_chain.Goals.{then-at-ne0-via-then-at-ne0, then-at-ne0-via-else-at-ne0+then-before-last}

-- a test of what a whole is sound with
whether : {S : Type 0} {T : Type 0} (b : Bool) → (b ≡ true → T) → (b ≡ false → T → ⊥) → (T → S) → (S → T) → (b ≡ true → S) × (S → b ≡ true)
whether true all never to from = (λ _. to (all refl), λ _. refl)
whether false all never to from = (λ h. absurd (true≢false (sym h)), λ s. absurd (never refl (from s)))

-- what a slot tells, whatever stands for one that isn't there
told-is : (told : List ℕ) (h slots d : ℕ) → length told ≡ slots → 1 ≤ slots → d ≡ get_or told (h % slots) d → d ≡ get_or told (h % slots) 0
told-is told h slots d long some e = e ∙ get_or_default told (h % slots) d 0 (omega (arith, long, some))

pub loop-left-init : goal.loop-left-init
loop-left-init g c = walking-start (g.D.DictDisc.rules c.args.kind.now) (g.N.Holders.blocks c.args.nodes.now) c.args.count c.args.table.0 c.args.slots c.args.first c.args.last
    c.in_ok-told.told.items c.in_ok-told.ensures.len c.in_ok-told.ensures.each

pub returns-in-None : goal.returns-in-None
returns-in-None g c = (
  λ yes. absurd (true≢false (sym yes)),
  λ h. absurd (walking-not (g.D.DictDisc.rules c.args.kind.now) (g.N.Holders.blocks c.args.nodes.now) c.args.count c.args.table.0 c.args.slots c.args.first c.args.last c.requires.slots
      c.loop-left.told.items c.loop-left.before c.loop-left.at c.loop-left.left (c.loop-left.left - 1) (omega (arith, c.loop-left-test.true)) c.loop-left.invariant c.in-None.ensures.none h),
)

pub returns-then-index-at : goal.returns-then-index-at
returns-then-index-at g c = (
  λ yes. absurd (true≢false (sym yes)),
  λ h. absurd (walking-other (g.D.DictDisc.rules c.args.kind.now) (g.N.Holders.blocks c.args.nodes.now) c.args.count c.args.table.0 c.args.slots c.args.first c.args.last c.requires.slots
      c.loop-left.told.items c.loop-left.before c.loop-left.at c.loop-left.left (c.loop-left.left - 1) (omega (arith, c.loop-left-test.true)) c.loop-left.invariant
      (c.in-Some.hash % c.args.slots) (ap (λ z. z % c.args.slots) (sym c.in-Some.ensures.some.1)) (λ e. c.if-index-at.true (told-is c.loop-left.told.items c.in-Some.hash c.args.slots c.index.result.now c.loop-left.invariant.long c.requires.slots c.index.ensures ∙ e)) h),
)

pub loop-left-preserved : goal.loop-left-preserved
loop-left-preserved g c =
    walking-next (g.D.DictDisc.rules c.args.kind.now) (g.N.Holders.blocks c.args.nodes.now) c.args.count c.args.table.0 c.args.slots c.args.first c.args.last c.requires.slots
    c.loop-left.told.items c.loop-left.before c.loop-left.at c.loop-left.left (c.loop-left.left - 1) (omega (arith, c.loop-left-test.true)) c.loop-left.invariant
    (c.in-Some.hash % c.args.slots) c.word.result c.word-at.result c.in-Some.ensures.some.0 (ap (λ z. z % c.args.slots) (sym c.in-Some.ensures.some.1))
    (sym (told-is c.loop-left.told.items c.in-Some.hash c.args.slots c.index.result.now c.loop-left.invariant.long c.requires.slots c.index.ensures) ∙ c.if-index-at.false) c.word.ensures c.word-at.ensures

pub returns-then-at-ne0 : goal.returns-then-at-ne0
returns-then-at-ne0 g c =
    let w = walking-end _ _ _ _ _ _ _ _ _ _ c.loop-left.left (omega (arith, c.loop-left-test.false)) c.loop-left.invariant in (
      λ yes. absurd (true≢false (sym yes)),
      λ h. elim c.then-at-ne0.branch [
        | then-at-ne0-via-then-at-ne0 v ↦ absurd (v.if-at-ne0.true (w.0 h).top)
        | then-at-ne0-via-else-at-ne0+then-before-last v ↦ absurd (v.if-before-last.true (sym (w.0 h).end))
      ],
    )

pub returns : goal.returns
returns g c =
    let w = walking-end _ _ _ _ _ _ _ _ _ _ c.loop-left.left (omega (arith, c.loop-left-test.false)) c.loop-left.invariant in
    whether c.are_none.result c.are_none.ensures.yes c.are_none.ensures.no
    (λ none. w.1 (record { top = c.if-at-ne0.false; end = sym c.if-before-last.false; none = none }))
    (λ h. (w.0 h).none)
