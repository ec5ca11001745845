-- What a profile region counts when a block goes.
use Rattle.vc_base.proofs.Common.{◌≡◌, ℕ, ◌+◌, ◌-◌, ◌≤◌, false, cond, ◌≢◌, List, [], map, IsSome, None, Some, option_map, bytes_eq, unwrap_or, sym, refl, ap, ◌∙◌, subst, arith, AllByRecursion, lookup, place_of, without_block_at, Block, Layout, address_of, without_block, HaveOwnPlaces, find_block}
use Rattle.indexmap.specs.IndexMap.{insert_entry, set_value_at}
use Rattle.vc_base.proofs.Quantifiers.{all-weaken, all-both}
use Rattle.vc_base.proofs.Texts.{own_bytes}
use Rattle.vc_addrmap.specs.Map.{Numbers, with_number}
use Rattle.vc_audit.specs.Profile.{Profile, rows_with_peaks, profile_free, site_blocks, site_bytes}
use Rattle.vc_audit.specs.ProfileSums.{IsCounted, IsHeld, IsRow, Rows, Sites, peaks_of, row_for, site_at, site_of, sites_by, with_its_site, with_sites}
use Rattle.vc_audit.specs.declared.profile.rows.Row.{Row}
use Rattle.vc_audit.proofs.ProfileBare.{layout, sited-alike, sited-find, sited-without}
use Rattle.vc_audit.proofs.ProfileCounts.{blocks-total, bytes-total, one, size_at, total-without}
use Rattle.vc_audit.proofs.ProfileHeld.{TheBlock, held-put, other-site, row-any, told-block, told-is}
use Rattle.vc_audit.proofs.ProfileLists.{all-found, all-without, others-apart}
use Rattle.vc_audit.proofs.ProfileSites.{IsRowOf, site_of_row, taken-site}
use Rattle.vc_audit.proofs.ProfileRows.{IsRowWith, distinct-put, peak-with, peaks-put, rows-put, site-there}

-- a profile by its parts
abbrev pub profile : Sites → Layout ℕ → Rows → Profile ℕ
profile t r es = record { layout = with_sites t r; peaks = peaks_of es }

-- rows of which one is set at its index are those in which it is put
pub counted-set : (r : Layout ℕ) (numbers : Numbers) (es es' : Rows) (site : List ℕ) (i : ℕ) (w : Row) → set_value_at es i w ≡ insert_entry bytes_eq es site w → es' ≡ set_value_at es i w
    → IsCounted r (sites_by numbers (set_value_at es i w)) (insert_entry bytes_eq es site w) → IsCounted r (sites_by numbers es') es'
counted-set r numbers es es' site i w is set counted =
    subst (λ (rows : Rows). IsCounted r (sites_by numbers rows) rows) (sym set) (subst (IsCounted r (sites_by numbers (set_value_at es i w))) (sym is) counted)

pub profile-set : (r : Layout ℕ) (numbers : Numbers) (es es' : Rows) (site : List ℕ) (i : ℕ) (w : Row) → set_value_at es i w ≡ insert_entry bytes_eq es site w → es' ≡ set_value_at es i w
    → profile (sites_by numbers es') r es' ≡ profile (sites_by numbers (set_value_at es i w)) r (insert_entry bytes_eq es site w)
profile-set r numbers es es' site i w is set = ap (λ (rows : Rows). profile (sites_by numbers rows) r rows) set ∙ ap (profile (sites_by numbers (set_value_at es i w)) r) is

-- every block has a site
pub has-site : {r : Layout ℕ} {t : Sites} {es : Rows} → IsCounted r t es → (a size : ℕ) → option_map (λ (x : Block ℕ). x.size) (find_block (place_of a) r.blocks) ≡ Some size → IsSome (site_at a t)
has-site {r} {t} {es} counted a size told =
    let b = told-block (λ (x : Block ℕ). x.size) r.blocks a size told in
    subst (λ n. IsSome (site_at n t)) b.address (all-found (place_of a) b.block (IsHeld t es) r.blocks b.found counted.held).kept

-- a block of a profile by what is told of it: its size, its site, and the row of the site
pub record IsAtSite (r : Layout ℕ) (t : Sites) (es : Rows) (a size : ℕ) (site : List ℕ) (v : Row) : Type 0 where
  pub counted : IsCounted r t es
  pub places : HaveOwnPlaces r.blocks
  pub the : TheBlock r.blocks a
  pub sized : the.block.size ≡ size
  pub kept : site_at a t ≡ Some site
  pub row : v ≡ row_for site es

pub at-site : {r : Layout ℕ} {t : Sites} {es : Rows} {a size : ℕ} {site : List ℕ} {v : Row} → IsCounted r t es → HaveOwnPlaces r.blocks → option_map (λ (x : Block ℕ). x.size) (find_block (place_of a) r.blocks) ≡ Some size
    → site_at a t ≡ Some site → v ≡ row_for site es → IsAtSite r t es a size site v
at-site {r} {t} {es} {a} {size} counted places told kept row =
    let b = told-block (λ (x : Block ℕ). x.size) r.blocks a size told in
    record { counted = counted; places = places; the = b; sized = told-is (λ (x : Block ℕ). x.size) r.blocks a size b told; kept = kept; row = row }

module _ {r : Layout ℕ} {t : Sites} {es : Rows} {a size : ℕ} {site : List ℕ} {v : Row} (at : IsAtSite r t es a size site v) where
  abbrev b : Block ℕ
  b = at.the.block

  abbrev pub p : ℕ × ℕ
  p = place_of a

  abbrev pub S : List (Block (ℕ × List ℕ))
  S = map (with_its_site t) r.blocks

  abbrev pub own : Block (ℕ × List ℕ)
  own = with_its_site t b

  pub own-is : site_of t b ≡ site
  own-is = ap (λ n. unwrap_or (site_at n t) []) at.the.address ∙ ap (λ o. unwrap_or o []) at.kept

  pub own-found : find_block p S ≡ Some own
  own-found = sited-find t p r.blocks ∙ ap (option_map (with_its_site t)) at.the.found

  pub own-held : IsHeld t es b
  own-held = all-found p b (IsHeld t es) r.blocks at.the.found at.counted.held

  pub has-row : IsSome (lookup (bytes_eq site) es)
  has-row = subst (λ x. IsSome (lookup (bytes_eq x) es)) own-is own-held.row

  pub row-is : IsRow S (site, v)
  row-is = subst (λ x. IsRow S (site, x)) (sym at.row) (row-any t es site r.blocks at.counted.held at.counted.counted)

  pub own-one : one site own ≡ 1
  own-one = ap (λ x. cond x 1 0) (ap (bytes_eq site) own-is ∙ own_bytes site)

  pub own-size : size_at site own ≡ size
  own-size = ap (λ x. cond x b.size 0) (ap (bytes_eq site) own-is ∙ own_bytes site) ∙ at.sized

  pub other-one : (x : List ℕ) → bytes_eq site x ≡ false → one x own ≡ 0
  other-one x e = ap (λ y. cond y 1 0) (ap (bytes_eq x) own-is ∙ other-site site x e)

  pub other-size : (x : List ℕ) → bytes_eq site x ≡ false → size_at x own ≡ 0
  other-size x e = ap (λ y. cond y b.size 0) (ap (bytes_eq x) own-is ∙ other-site site x e)

  -- the blocks but for this one
  abbrev pub rest : List (Block (ℕ × List ℕ))
  rest = without_block p S

  pub blocks-split : (x : List ℕ) → site_blocks x S ≡ one x own + site_blocks x rest
  blocks-split x = blocks-total x S ∙ (total-without (one x) p own S own-found ∙ ap (λ n. one x own + n) (sym (blocks-total x rest)))

  pub bytes-split : (x : List ℕ) → site_bytes x S ≡ size_at x own + site_bytes x rest
  bytes-split x = bytes-total x S ∙ (total-without (size_at x) p own S own-found ∙ ap (λ n. size_at x own + n) (sym (bytes-total x rest)))

  -- the sums of the site have the block
  pub enough-blocks : 1 ≤ v.blocks
  enough-blocks = omega (arith, row-is.blocks_are, blocks-split site, own-one)

  pub enough-bytes : size ≤ v.bytes
  enough-bytes = omega (arith, row-is.bytes_are, bytes-split site, own-size)

  pub away : AllByRecursion (λ c. address_of c ≢ a) (without_block p r.blocks)
  away =
      all-weaken (λ c. address_of c ≢ address_of b) (λ c. address_of c ≢ a) (without_block p r.blocks) (λ c differs e. differs (e ∙ sym at.the.address))
      (others-apart p b r.blocks at.the.found at.places)

  -- the block goes
  module _ (t' : Sites) (others : (q : ℕ) → q ≢ a → site_at q t' ≡ site_at q t) (w : Row) (with : IsRowWith v (v.blocks - 1) (v.bytes - size) w) where
    abbrev left : List (Block ℕ)
    left = without_block p r.blocks

    abbrev es' : Rows
    es' = insert_entry bytes_eq es site w

    left-is : map (with_its_site t') left ≡ rest
    left-is =
        sited-alike t t' left (all-weaken (λ c. address_of c ≢ a) (λ c. site_at (address_of c) t' ≡ site_at (address_of c) t) left (λ c differs. others (address_of c) differs) away)
        ∙ sited-without t p r.blocks

    same : (x : List ℕ) → bytes_eq site x ≡ false → (site_blocks x rest ≡ site_blocks x S) × (site_bytes x rest ≡ site_bytes x S)
    same x e = (omega (arith, blocks-split x, other-one x e), omega (arith, bytes-split x, other-size x e))

    w-is : IsRow rest (site, w)
    w-is = record {
      blocks_are = omega (arith, row-is.blocks_are, blocks-split site, own-one, with.blocks);
      bytes_are = omega (arith, row-is.bytes_are, bytes-split site, own-size, with.bytes);
      few = omega (arith, row-is.few, with.blocks);
      peak = omega (arith, peak-with v v _ _ w refl with);
    }

    pub counted-freed : IsCounted (without_block_at r p) t' es'
    counted-freed = record {
      held = all-both (IsHeld t es) (λ c. address_of c ≢ a) (IsHeld t' es') left (λ c h differs. held-put t t' es site w c h (others (address_of c) differs)) (all-without (IsHeld t es) p r.blocks at.counted.held) away;
      counted = subst (λ bs. AllByRecursion (IsRow bs) es') (sym left-is) (rows-put S rest site w w-is same es at.counted.distinct at.counted.counted);
      distinct = distinct-put site w es at.counted.distinct;
    }

    pub profile-freed : profile t' (without_block_at r p) es' ≡ profile_free (profile t r es) p
    profile-freed =
        let made : Layout (ℕ × List ℕ) → List (List ℕ × ℕ) → Profile ℕ = λ l ps. record { layout = l; peaks = ps } in
        ap (λ bs. made (layout r.segments bs) (peaks_of es')) left-is
        ∙ ap (made (layout r.segments rest)) (peaks-put S rest site w w-is same es at.counted.distinct at.counted.counted (peak-with v (row_for site es) _ _ w at.row with) ∙ ap (rows_with_peaks rest) (site-there site es has-row))

-- the block goes, and its row changes at its index
module _ {r : Layout ℕ} {old new : Numbers} {es es' : Rows} {a size i : ℕ} {v w : Row} (of : IsRowOf old es a i v) (at : IsAtSite r (sites_by old es) es a size (site_of_row es i) v)
    (taken : new ≡ with_number a None old) (set : es' ≡ set_value_at es i w) (with : IsRowWith v (v.blocks - 1) (v.bytes - size) w) where
  pub counted-gone : IsCounted (without_block_at r (place_of a)) (sites_by new es') es'
  counted-gone = counted-set (without_block_at r (place_of a)) new es es' (site_of_row es i) i w (of.set w) set (counted-freed at (sites_by new (set_value_at es i w)) (taken-site old new es i w a taken) w with)

  pub profile-gone : profile (sites_by new es') (without_block_at r (place_of a)) es' ≡ profile_free (profile (sites_by old es) r es) (place_of a)
  profile-gone = profile-set (without_block_at r (place_of a)) new es es' (site_of_row es i) i w (of.set w) set ∙ profile-freed at (sites_by new (set_value_at es i w)) (taken-site old new es i w a taken) w with
