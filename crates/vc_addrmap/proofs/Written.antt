-- What a write of one entry does to the store of nodes.
use Rattle.vc_base.proofs.Common.{◌≡◌, ℕ, Bool, true, false, ◌&&◌, if◌then◌else◌, eqb, inl, inr, is_some, option_map, unwrap_or, Some, ◌==◌, ap, ◌∙◌, sym, refl, eqb_tells}
use Rattle.slab.specs.Slab.{Slab}
use Rattle.vc_splay.specs.Store.{is_same, with_kid, with_parent}
use Rattle.vc_addrmap.specs.declared.entries.Entry.{Entry}
use Rattle.vc_addrmap.specs.Entries.{EntryWritten, child_of, entry_at, entry_store, has_entry, part_at}

module _ (old new : Slab Entry) (n : ℕ) (entry other : Entry) (is : entry_at old n ≡ Some entry) (w : EntryWritten old new n other) where
  pub has-written : (m : ℕ) → has_entry new m ≡ has_entry old m
  has-written m = ap is_some (w.entries m) ∙ elim (eqb_tells m n) as (λ z. is_some (if eqb m n then Some other else entry_at old m) ≡ has_entry old m) [
    | inl same ↦ rw same.0 (sym (ap (λ z. is_some (entry_at old z)) same.1 ∙ ap is_some is))
    | inr apart ↦ rw apart.0 refl
  ]

  pub part-written : (part : Entry → ℕ) (m : ℕ) → part_at part new m ≡ (if m == n then part other else part_at part old m)
  part-written part m = ap (λ z. unwrap_or (option_map part z) 0) (w.entries m) ∙ elim (eqb_tells m n) as (λ z. unwrap_or (option_map part (if eqb m n then Some other else entry_at old m)) 0 ≡ (if eqb m n then part other else part_at part old m)) [
    | inl same ↦ rw same.0 refl
    | inr apart ↦ rw apart.0 refl
  ]

  -- a part that is the same in both is the same of each name
  pub part-kept : (part : Entry → ℕ) → part other ≡ part entry → (m : ℕ) → part_at part new m ≡ part_at part old m
  part-kept part e m = part-written part m ∙ elim (eqb_tells m n) as (λ z. (if eqb m n then part other else part_at part old m) ≡ part_at part old m) [
    | inl same ↦ rw same.0 (e ∙ sym (ap (part_at part old) same.1 ∙ ap (λ z. unwrap_or (option_map part z) 0) is))
    | inr apart ↦ rw apart.0 refl
  ]

module _ (old new : Slab Entry) (n v : ℕ) (entry other : Entry) (is : entry_at old n ≡ Some entry) (w : EntryWritten old new n other) where
  -- a child that is written on a side where it is asked for, and one that is not
  kid-at : (d e : Bool) → child_of e other ≡ (if d then v else child_of e entry) → (m : ℕ) → part_at (child_of e) new m ≡ (if (m == n) && d then v else part_at (child_of e) old m)
  kid-at true e h m = part-written old new n entry other is w (child_of e) m ∙ ap (λ z. if m == n then z else part_at (child_of e) old m) h ∙ and-true (m == n)
    where
      and-true : (b : Bool) → (if b then v else part_at (child_of e) old m) ≡ (if b && true then v else part_at (child_of e) old m)
      and-true true = refl
      and-true false = refl
  kid-at false e h m = part-kept old new n entry other is w (child_of e) h m ∙ and-false (m == n)
    where
      and-false : (b : Bool) → part_at (child_of e) old m ≡ (if b && false then v else part_at (child_of e) old m)
      and-false true = refl
      and-false false = refl

  -- an entry that has another child on one side, and all else as it was
  pub kid-written : (d : Bool) → (child_of true other ≡ (if is_same d true then v else child_of true entry)) × (child_of false other ≡ (if is_same d false then v else child_of false entry)) → other.up ≡ entry.up
      → entry_store new ≡ with_kid d n v (entry_store old)
  unfolding with_kid
  kid-written d kids up = λ i. record {
    has = λ m. has-written old new n entry other is w m i;
    kid = λ e m. kid e m i;
    parent = λ m. part-kept old new n entry other is w (λ x. x.up) up m i;
  }
    where
      kid : (e : Bool) (m : ℕ) → (entry_store new).kid e m ≡ (if (m == n) && is_same d e then v else (entry_store old).kid e m)
      kid true m = kid-at (is_same d true) true kids.0 m
      kid false m = kid-at (is_same d false) false kids.1 m

  -- an entry that has both children as before
  kid-kept : other.left ≡ entry.left → other.right ≡ entry.right → (e : Bool) (m : ℕ) → (entry_store new).kid e m ≡ (entry_store old).kid e m
  kid-kept l r true m = part-kept old new n entry other is w (λ x. x.left) l m
  kid-kept l r false m = part-kept old new n entry other is w (λ x. x.right) r m

  pub up-written : other ≡ record entry { up = v } → entry_store new ≡ with_parent n v (entry_store old)
  unfolding with_parent
  up-written e = λ i. record {
    has = λ m. has-written old new n entry other is w m i;
    kid = λ d m. kid-kept (ap (λ x. x.left) e) (ap (λ x. x.right) e) d m i;
    parent = λ m. (part-written old new n entry other is w (λ x. x.up) m ∙ ap (λ z. if m == n then z else part_at (λ x. x.up) old m) (ap (λ x. x.up) e)) i;
  }

  -- another number leaves the nodes as they are
  pub store-kept : other ≡ record entry { value = v } → entry_store new ≡ entry_store old
  store-kept e = λ i. record {
    has = λ m. has-written old new n entry other is w m i;
    kid = λ d m. kid-kept (ap (λ x. x.left) e) (ap (λ x. x.right) e) d m i;
    parent = λ m. part-kept old new n entry other is w (λ x. x.up) (ap (λ x. x.up) e) m i;
  }
