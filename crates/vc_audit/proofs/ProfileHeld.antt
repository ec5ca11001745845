-- Blocks whose sites are kept, and the row of any site.
use Rattle.vc_base.proofs.Common.{◌≡◌, ℕ, ◌+◌, true, false, cond, eqb, List, [], ◌∷◌, map, IsSome, Some, None, Option, option_map, bytes_eq, unwrap_or, sym, refl, ap, ◌∙◌, subst, ⊎_elim, arith, eqb-true, and_parts, cases_Bool, none-some, same_Some, AllByRecursion, lookup, address, place_of, Block, address_of, is_at, find_block}
use Rattle.indexmap.specs.IndexMap.{insert_entry}
use Rattle.vc_model.proofs.Owned.{address-place_of}
use Rattle.vc_base.proofs.Texts.{same_bytes, own_bytes}
use Rattle.vc_audit.specs.Profile.{has_site}
use Rattle.vc_audit.specs.ProfileSums.{IsHeld, IsRow, Rows, Sites, new_row, row_for, site_at, site_of, with_its_site}
use Rattle.vc_audit.specs.declared.profile.rows.Row.{Row}
use Rattle.vc_audit.proofs.ProfileCounts.{blocks-total, bytes-total, one, size_at, total}
use Rattle.vc_audit.proofs.ProfileRows.{put-keeps}

-- the block at an address
pub record TheBlock {L : Type 0} (bs : List (Block L)) (a : ℕ) : Type 0 where
  pub block : Block L
  pub found : find_block (place_of a) bs ≡ Some block
  pub address : address_of block ≡ a

found-passes : {L : Type 0} (p : ℕ × ℕ) (bs : List (Block L)) (b : Block L) → find_block p bs ≡ Some b → is_at p b ≡ true
found-passes p [] b e = absurd (none-some b e)
found-passes p (c ∷ cs) b e =
    ⊎_elim
    (λ t. subst (λ d. is_at p d ≡ true) (same_Some c b (sym (ap (λ v. cond v (Some c) (find_block p cs)) t) ∙ e)) t)
    (λ t. found-passes p cs b (sym (ap (λ v. cond v (Some c) (find_block p cs)) t) ∙ e))
    (cases_Bool (is_at p c))

pub at-address : {L : Type 0} (a : ℕ) (b : Block L) → is_at (place_of a) b ≡ true → address_of b ≡ a
at-address a b e =
    let both = and_parts (eqb b.seg (place_of a).0) (eqb b.off (place_of a).1) e in
    ap (λ s. address (s, b.off)) (eqb-true b.seg (place_of a).0 both.0) ∙ (ap (λ o. address ((place_of a).0, o)) (eqb-true b.off (place_of a).1 both.1) ∙ address-place_of a)

pub found-block : {L : Type 0} (bs : List (Block L)) (a : ℕ) (b : Block L) → find_block (place_of a) bs ≡ Some b → TheBlock bs a
found-block bs a b e = record { block = b; found = e; address = at-address a b (found-passes (place_of a) bs b e) }

-- what is told of it
pub told-block : {L A : Type 0} (f : Block L → A) (bs : List (Block L)) (a : ℕ) (x : A) → option_map f (find_block (place_of a) bs) ≡ Some x → TheBlock bs a
told-block {L} f bs a x e = go (find_block (place_of a) bs) refl e
  where
    go : (o : Option (Block L)) → find_block (place_of a) bs ≡ o → option_map f o ≡ Some x → TheBlock bs a
    go None is e = absurd (none-some x e)
    go (Some b) is e = found-block bs a b is

pub told-is : {L A : Type 0} (f : Block L → A) (bs : List (Block L)) (a : ℕ) (x : A) (b : TheBlock bs a) → option_map f (find_block (place_of a) bs) ≡ Some x → f b.block ≡ x
told-is f bs a x b e = same_Some (f b.block) x (sym (ap (option_map f) b.found) ∙ e)

-- a held block whose site is kept as before, as the row of some site is put
pub held-put : (t t' : Sites) (es : Rows) (site : List ℕ) (w : Row) (b : Block ℕ) → IsHeld t es b → site_at (address_of b) t' ≡ site_at (address_of b) t → IsHeld t' (insert_entry bytes_eq es site w) b
held-put t t' es site w b h same =
    record {
      kept = subst IsSome (sym same) h.kept;
      row = subst (λ o. IsSome (lookup (bytes_eq (unwrap_or o [])) (insert_entry bytes_eq es site w))) (sym same) (put-keeps (site_of t b) site w es h.row);
      most = h.most;
    }

-- a block whose site is another one
pub other-site : (site x : List ℕ) → bytes_eq site x ≡ false → bytes_eq x site ≡ false
other-site site x e =
    ⊎_elim
    (λ t. absurd (cc (e, sym (own_bytes x) ∙ ap (λ y. bytes_eq y x) (same_bytes x site t))))
    (λ t. t)
    (cases_Bool (bytes_eq x site))

-- where a site has no row, no block has it
module _ (t : Sites) (es : Rows) (site : List ℕ) (none : lookup (bytes_eq site) es ≡ None) where
  unlike : (b : Block ℕ) → IsHeld t es b → has_site site (with_its_site t b) ≡ false
  unlike b h =
      ⊎_elim
      (λ e. absurd (cc (none, h.row, ap (λ x. lookup (bytes_eq x) es) (same_bytes site (site_of t b) e))))
      (λ e. e)
      (cases_Bool (bytes_eq site (site_of t b)))

  no-blocks : (bs : List (Block ℕ)) → AllByRecursion (IsHeld t es) bs → total (one site) (map (with_its_site t) bs) ≡ 0
  no-blocks [] all = refl
  no-blocks (b ∷ bs) all = ap (λ v. cond v 1 0 + total (one site) (map (with_its_site t) bs)) (unlike b all.0) ∙ omega (arith, no-blocks bs all.1)

  no-bytes : (bs : List (Block ℕ)) → AllByRecursion (IsHeld t es) bs → total (size_at site) (map (with_its_site t) bs) ≡ 0
  no-bytes [] all = refl
  no-bytes (b ∷ bs) all = ap (λ v. cond v b.size 0 + total (size_at site) (map (with_its_site t) bs)) (unlike b all.0) ∙ omega (arith, no-bytes bs all.1)

row-found : (bs : List (Block (ℕ × List ℕ))) (site : List ℕ) (w : Row) (es : Rows) → AllByRecursion (IsRow bs) es → lookup (bytes_eq site) es ≡ Some w → IsRow bs (site, w)
row-found bs site w [] all e = absurd (none-some w e)
row-found bs site w (k ∷ es) all e =
    ⊎_elim
    (λ t.
    let is : k.1 ≡ w = same_Some k.1 w (sym (ap (λ v. cond v (Some k.1) (lookup (bytes_eq site) es)) t) ∙ e) in
    subst (λ x. IsRow bs (x, w)) (sym (same_bytes site k.0 t)) (subst (λ v. IsRow bs (k.0, v)) is all.0))
    (λ t. row-found bs site w es all.1 (sym (ap (λ v. cond v (Some k.1) (lookup (bytes_eq site) es)) t) ∙ e))
    (cases_Bool (bytes_eq site k.0))

-- the row of any site has its sums
pub row-any : (t : Sites) (es : Rows) (site : List ℕ) (bs : List (Block ℕ)) → AllByRecursion (IsHeld t es) bs → AllByRecursion (IsRow (map (with_its_site t) bs)) es → IsRow (map (with_its_site t) bs) (site, row_for site es)
row-any t es site bs held all = go (lookup (bytes_eq site) es) refl
  where
    go : (o : Option Row) → lookup (bytes_eq site) es ≡ o → IsRow (map (with_its_site t) bs) (site, unwrap_or o new_row)
    go None none = record {
      blocks_are = sym (blocks-total site (map (with_its_site t) bs) ∙ no-blocks t es site none bs held);
      bytes_are = sym (bytes-total site (map (with_its_site t) bs) ∙ no-bytes t es site none bs held);
      few = omega arith;
      peak = omega arith;
    }
    go (Some w) is = row-found (map (with_its_site t) bs) site w es all is
