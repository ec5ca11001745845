-- What turning a dictionary leaves of its region.
use Rattle.vc_base.proofs.Common.{◌≡◌, ℕ, Bool, true, false, not, ◌&&◌, ◌≢◌, ◌⊎◌, ◌∷◌, length, if◌then◌else◌, ◌==◌, Some, None, sym, refl, ap, ◌∙◌, subst, inl, inr, true≢false, ne_eqb, eqb_tells, length-map, none-some, Blocks, contains, has_table, Discipline}
use Rattle.vc_base.specs.declared.dict_method.DictMethod.{DictMethod}
use Rattle.vc_dtdisc.specs.Rules.{Rules}
use Rattle.vc_dthash.specs.Slots.{slots_for}
use Rattle.vc_dict.specs.declared.dict.Dict.{Dict}
use Rattle.vc_dict.specs.Listed.{holders_of}
use Rattle.vc_base.proofs.Members.{apart-head, apart-tail}
use Rattle.vc_dict.specs.Methods.{slots_between}
use Rattle.vc_best.specs.Cells.{cells_in, labelled_blocks, rest_in}
use Rattle.vc_best.specs.Parts.{disc_in, segments_in}
use Rattle.vc_best.specs.declared.best.Best.{Best}
use Rattle.vc_objects.specs.Leaves.{KeepsDisc, LeavesRest}
use Rattle.vc_objects.specs.Objects.{own_blocks}
use Rattle.vc_objects.specs.Parts.{IsWhole, dictionary_in, dictionary_of, object_of}
use Rattle.vc_objects.specs.Turning.{BringsCell}
use Rattle.vc_objects.proofs.Bringing.{other-brought, told-brought}
use Rattle.vc_objects.proofs.Leaving.{keeps-same, keeps-trans, leaves-still, none-at}
use Rattle.vc_objects.proofs.Owning.{owned-within}
use Rattle.vc_dict.specs.Stands.{table_in}

-- so many objects are counted
pub counts-objects : (rules : Rules) (d : Dict) (b : Blocks) → IsWhole rules d b → length (dictionary_of d b).objects ≡ d.count
counts-objects rules d b whole = length-map (holders_of d b) (object_of b) ∙ sym whole.stands.count

-- a table that was brought is the one that it has then
then_by : (new old : Bool) (at t x n s : ℕ) → x ≡ (if new && old then at else t) → (if new && not old then Some n else None) ≡ (if t == 0 then None else Some s) → t ≢ 0 → x ≡ t
then_by true true at t x n s e h ne = absurd (none-some s (h ∙ ap (λ z. if z then None else Some s) (ne_eqb t 0 ne)))
then_by true false at t x n s e h ne = e
then_by false old at t x n s e h ne = e

which_by : (u : Bool) (at t x : ℕ) → x ≡ (if u then at else t) → (x ≡ at) ⊎ (x ≡ t)
which_by true at t x e = inl e
which_by false at t x e = inr e

module _ {I : Type 0} {V : I → Type 0} (meaning : (x : I) × V x → Discipline) (rules : Rules) (d : Dict) where
  -- nothing was turned
  pub leaves-refused : (r r' : Best I V) → IsWhole rules d (cells_in r) → KeepsDisc (disc_in meaning r) (disc_in meaning r') (segments_in r) (segments_in r')
      → rest_in r' ≡ rest_in r → cells_in r' ≡ cells_in r → LeavesRest meaning rules r d r' d
  leaves-refused r r' whole disc rest cells = record {
    whole = subst (λ b. IsWhole rules d b) (sym cells) whole;
    kind = refl;
    rest = leaves-still meaning r r' (own_blocks (dictionary_in d r)) (own_blocks (dictionary_in d r')) disc rest cells (ap (λ b. own_blocks (dictionary_of d b)) cells);
  }

  -- it was turned
  module _ (method : DictMethod) (d' : Dict) (r r1 r2 : Best I V) (t s : ℕ) (whole : IsWhole rules d (cells_in r)) (brought : BringsCell (slots_between d.method method d.count) (cells_in r) (cells_in r1) t s)
      (table : (table_in d').0 ≡ (if has_table method && has_table d.method then (table_in d).0 else t))
      (within : (a : ℕ) → contains (holders_of d (cells_in r1)) a ≡ false → contains (holders_of d' (cells_in r2)) a ≡ false)
      (others : (a : ℕ) → a ≢ 0 → a ≢ t → a ≢ (table_in d).0 → contains (holders_of d (cells_in r1)) a ≡ false → cells_in r2 a ≡ cells_in r1 a) where
    abbrev old : Blocks
    old = cells_in r

    told : (a : ℕ) → contains (holders_of d old) a ≡ false → contains (holders_of d (cells_in r1)) a ≡ false
    told a h = ap (λ xs. contains xs a) (told-brought rules method d old (cells_in r1) t s whole brought) ∙ h

    not-new : (a : ℕ) → a ≢ 0 → (table_in d').0 ≢ a → a ≢ t
    not-new a some ne e =
        ne (then_by (has_table method) (has_table d.method) (table_in d).0 t (table_in d').0 (slots_for d.count) s table brought.wants (λ z. some (e ∙ z)) ∙ sym e)

    others-stay : (a : ℕ) → contains (own_blocks (dictionary_in d r)) a ≡ false → contains (own_blocks (dictionary_in d' r2)) a ≡ false → cells_in r2 a ≡ cells_in r a
    others-stay a mine mine' = elim (eqb_tells a 0) as (λ _. cells_in r2 a ≡ cells_in r a) [
      | inl same ↦ subst (λ n. cells_in r2 n ≡ cells_in r n) (sym same.1) (none-at r2 ∙ sym (none-at r))
      | inr some ↦
          let h : contains ((table_in d).0 ∷ holders_of d old) a ≡ false = sym (owned-within d old a some.1) ∙ mine in
          let k : contains ((table_in d').0 ∷ holders_of d' (cells_in r2)) a ≡ false = sym (owned-within d' (cells_in r2) a some.1) ∙ mine' in
          let new = not-new a some.1 (apart-head (table_in d').0 (holders_of d' (cells_in r2)) a k) in
          others a some.1 new (λ e. apart-head (table_in d).0 (holders_of d old) a h (sym e)) (told a (apart-tail (table_in d).0 (holders_of d old) a h))
          ∙ other-brought rules method d old (cells_in r1) t s whole brought a new
    ]

    new-table : (a : ℕ) → a ≢ 0 → contains ((table_in d).0 ∷ holders_of d old) a ≡ false → (table_in d').0 ≡ a → old a ≡ None
    new-table a some h e = elim (which_by (has_table method && has_table d.method) (table_in d).0 t (table_in d').0 table) as (λ _. old a ≡ None) [
      | inl same ↦ absurd (apart-head (table_in d).0 (holders_of d old) a h (sym same ∙ e))
      | inr new ↦ subst (λ z. old z ≡ None) (sym new ∙ e) (brought.fresh (λ z. some (sym e ∙ (new ∙ z))))
    ]

    fresh-then : (a : ℕ) → contains (own_blocks (dictionary_in d' r2)) a ≡ true → contains (own_blocks (dictionary_in d r)) a ≡ false → cells_in r a ≡ None
    fresh-then a mine' mine = elim (eqb_tells a 0) as (λ _. cells_in r a ≡ None) [
      | inl same ↦ subst (λ n. cells_in r n ≡ None) (sym same.1) (none-at r)
      | inr some ↦
          let h : contains ((table_in d).0 ∷ holders_of d old) a ≡ false = sym (owned-within d old a some.1) ∙ mine in
          let k : contains ((table_in d').0 ∷ holders_of d' (cells_in r2)) a ≡ true = sym (owned-within d' (cells_in r2) a some.1) ∙ mine' in
          elim (eqb_tells (table_in d').0 a) as (λ _. cells_in r a ≡ None) [
            | inl here ↦ new-table a some.1 h here.1
            | inr apart ↦ absurd (true≢false (sym (rw apart.0 at k) ∙ within a (told a (apart-tail (table_in d).0 (holders_of d old) a h))))
          ]
    ]

    pub leaves-turned : IsWhole rules d' (cells_in r2) → d'.kind ≡ d.kind
        → KeepsDisc (disc_in meaning r) (disc_in meaning r1) (segments_in r) (segments_in r1) → disc_in meaning r2 ≡ disc_in meaning r1 → segments_in r2 ≡ segments_in r1
        → labelled_blocks (rest_in r1) ≡ labelled_blocks (rest_in r) → labelled_blocks (rest_in r2) ≡ labelled_blocks (rest_in r1) → LeavesRest meaning rules r d r2 d'
    leaves-turned now kind disc discs segments label label' = record {
      whole = now;
      kind = kind;
      rest = record {
        disc = keeps-trans (disc_in meaning r) (disc_in meaning r1) (disc_in meaning r2) (segments_in r) (segments_in r1) (segments_in r2) disc
            (keeps-same (disc_in meaning r1) (disc_in meaning r2) (segments_in r1) (segments_in r2) discs segments);
        labelled = label' ∙ label;
        others = others-stay;
        fresh = fresh-then;
      };
    }
