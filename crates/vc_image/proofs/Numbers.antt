-- The nine numbers of a whole dictionary are below 2^32.
use Rattle.vc_base.proofs.Common.{◌≡◌, ℕ, ◌≤◌, ◌<◌, ◌^◌, true, List, [], ◌∷◌, contains, sym, refl, ap, subst, arith, inl, inr, ⊎_elim, eqb_tells, IsSome}
use Rattle.std.proofs.Math.Pow.{pow_mono}
use Rattle.vc_base.specs.declared.addr.Addr.{Addr}
use Rattle.vc_base.specs.declared.dict_method.DictMethod.{DictMethod}
use Rattle.vc_base.specs.declared.dict_method.DictMethod.TheVariants.{DtSet, DtBag, DtOset, DtObag, DtList, DtStack, DtQueue}
use Rattle.vc_base.specs.Cells.{Blocks}
use Rattle.vc_base.specs.Holders.{first_of, last_of}
use Rattle.vc_base.specs.Methods.{method_number}
use Rattle.vc_base.proofs.Members.{within-cases, within-head, within-last, within-rest, within-tail}
use Rattle.vc_splay.specs.Tree.{Tree, Leaf, Node, name_of, names}
use Rattle.vc_dtdisc.specs.Rules.{Rules}
use Rattle.vc_dthash.specs.Hashed.{HasTable}
use Rattle.vc_dthash.specs.Slots.{IsSlots}
use Rattle.vc_dict.specs.declared.dict.Dict.{Dict}
use Rattle.vc_dict.specs.declared.form.Form.{Form}
use Rattle.vc_dict.specs.declared.form.Form.TheVariants.{Hash, Links, Order}
use Rattle.vc_dict.specs.declared.heads.Heads.{Heads}
use Rattle.vc_dict.specs.Listed.{holders_of}
use Rattle.vc_dict.specs.Parts.{heads_at, heads_in}
use Rattle.vc_dict.specs.Stands.{HeadsFor, slots_at, slots_in, table_at, table_in}
use Rattle.vc_dict.proofs.OwnLemmas.{Stands-table, count-fits, holder-address}
use Rattle.vc_objects.specs.Parts.{IsWhole}
use Rattle.vc_image_check.specs.Bytes.Header.{FitsRow}
use Rattle.vc_image.specs.Save.{dict_row}

method-fits : (m : DictMethod) → method_number m < 2 ^ 32
method-fits DtSet = omega arith
method-fits DtBag = omega arith
method-fits DtOset = omega arith
method-fits DtObag = omega arith
method-fits DtList = omega arith
method-fits DtStack = omega arith
method-fits DtQueue = omega arith

slots-fit : (slots : ℕ) → IsSlots slots → slots < 2 ^ 32
slots-fit slots h =
    let few = h.few in
    let value = h.value in
    let most : 2 ^ h.doublings ≤ 2 ^ 17 = pow_mono {i = h.doublings} {j = 17} few in
    omega (arith, value, most)

-- the ends of a list, and the root of a tree, are none or among its addresses
first-in : (xs : List ℕ) → contains (0 ∷ xs) (first_of xs 0) ≡ true
first-in [] = within-head 0 []
first-in (x ∷ xs) = within-tail 0 (x ∷ xs) x (within-head x xs)

last-in : (xs : List ℕ) → contains (0 ∷ xs) (last_of 0 xs) ≡ true
last-in xs = within-last 0 xs

root-in : (t : Tree) → contains (0 ∷ names t) (name_of t) ≡ true
root-in Leaf = within-head 0 []
root-in (Node l n r) = within-tail 0 (names (Node l n r)) n (within-rest (names l) (n ∷ names r) n (within-head n (names r)))

-- the ends and the root of heads
record AreIn (xs : List ℕ) (h : Heads) : Type 0 where
  first : contains (0 ∷ xs) h.first.0 ≡ true
  last : contains (0 ∷ xs) h.last.0 ≡ true
  root : contains (0 ∷ xs) h.root.0 ≡ true

ends-in : (rules : Rules) (b : Blocks) (xs : List ℕ) (f : Form) → HeadsFor rules f b xs → AreIn xs (heads_at f)
ends-in rules b xs (Hash hash) h = record {
  first = subst (λ a. contains (0 ∷ xs) a ≡ true) (sym h.links.first) (first-in xs);
  last = subst (λ a. contains (0 ∷ xs) a ≡ true) (sym h.links.last) (last-in xs);
  root = within-head 0 xs;
}
ends-in rules b xs (Order ord) h = record {
  first = within-head 0 xs;
  last = within-head 0 xs;
  root = subst (λ a. contains (0 ∷ xs) a ≡ true) (sym h.is_tree.top) (subst (λ ys. contains (0 ∷ ys) (name_of h.tree) ≡ true) h.list (root-in h.tree));
}
ends-in rules b xs (Links list) h = record {
  first = subst (λ a. contains (0 ∷ xs) a ≡ true) (sym h.links.first) (first-in xs);
  last = subst (λ a. contains (0 ∷ xs) a ≡ true) (sym h.links.last) (last-in xs);
  root = within-head 0 xs;
}

heads-table : (f : Form) → (heads_at f).table ≡ table_at f
heads-table (Hash hash) = refl
heads-table (Order ord) = refl
heads-table (Links list) = refl

heads-slots : (f : Form) → (heads_at f).slots ≡ slots_at f
heads-slots (Hash hash) = refl
heads-slots (Order ord) = refl
heads-slots (Links list) = refl

pub row-fits : (rules : Rules) (d : Dict) (b : Blocks) → ((a : ℕ) → IsSome (b a) → a < 2 ^ 32) → d.kind < 2 ^ 32 → IsWhole rules d b → FitsRow (dict_row d)
row-fits rules d b cells kind w =
    let xs = holders_of d b in
    let few = count-fits rules d b xs w.stands in
    let count = w.stands.count in
    let small : (a : ℕ) → contains (0 ∷ xs) a ≡ true → a < 2 ^ 32 = λ a k.
    ⊎_elim
    (λ (e : 0 ≡ a). omega (arith, e))
    (λ (i : contains xs a ≡ true). (holder-address rules d b xs a w.stands i).fits)
    (within-cases 0 xs a k) in
    let ends = ends-in rules b xs d.heads w.stands.heads in
    let has : HasTable b xs (table_in d).0 (slots_in d) = Stands-table rules d b xs w.stands in
    let table = ap (λ (z : Addr). z.0) (heads-table d.heads) in
    let slots = heads-slots d.heads in
    let both : ((table_in d).0 < 2 ^ 32) × (slots_in d < 2 ^ 32) = elim (eqb_tells (table_in d).0 0) as (λ _. ((table_in d).0 < 2 ^ 32) × (slots_in d < 2 ^ 32)) [
      | inl none ↦
          let z = none.1 in
          let s = has.none z in
          (omega (arith, z), omega (arith, s))
      | inr some ↦
          let t = has.some some.1 in
          (cells (table_in d).0 t.there, slots-fit (slots_in d) t.slots_allowed)
    ] in
    let fits = both.0 in
    let many = both.1 in
    record {
      method = method-fits d.method;
      kind = kind;
      count = omega (arith, few, count);
      current = small d.current.0 w.current;
      first = small (heads_in d).first.0 ends.first;
      last = small (heads_in d).last.0 ends.last;
      table = omega (arith, table, fits);
      slots = omega (arith, slots, many);
      root = small (heads_in d).root.0 ends.root;
    }
