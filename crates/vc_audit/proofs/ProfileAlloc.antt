-- What a profile region counts when a block is put.
use Rattle.vc_base.proofs.Common.{◌≡◌, ℕ, suc, ◌+◌, ◌*◌, ◌<◌, ◌≤◌, Bool, false, cond, ◌≢◌, List, [], ◌∷◌, map, length, is_some, IsSome, Some, bytes_eq, unwrap_or, sym, refl, ap, ◌∙◌, subst, arith, length-map, AllByRecursion, lookup, best_alloc, zeros, Terms, Block, Layout, address_of, relabel_block, with_block, Outcome, Put, HasBlock}
use Rattle.indexmap.specs.IndexMap.{insert_entry}
use Rattle.vc_model.proofs.Relabel.{best_alloc-relabel, relabel_outcome}
use Rattle.vc_base.proofs.Quantifiers.{all-weaken, all-both, all-map}
use Rattle.vc_base.proofs.Texts.{own_bytes}
use Rattle.vc_seg.specs.Answer.{IsPut, IsRefusal}
use Rattle.vc_seg.specs.declared.fault.RegionFault.{RegionFault}
use Rattle.vc_audit.specs.Profile.{Profile, profile_after, profile_alloc, site_blocks, site_bytes, with_site}
use Rattle.vc_audit.specs.ProfileSums.{IsCounted, IsHeld, IsRow, Rows, Sites, peaks_of, row_for, site_at, with_its_site, with_sites}
use Rattle.vc_audit.specs.declared.profile.rows.Row.{Row}
use Rattle.vc_audit.proofs.ProfileBare.{IsKept, bare, bare-layout, kept-layout}
use Rattle.vc_audit.proofs.ProfileCounts.{blocks-few, blocks-total, bytes-few, bytes-total, one, size_at, total-with}
use Rattle.vc_audit.proofs.ProfileFree.{profile}
use Rattle.vc_audit.proofs.ProfileHeld.{held-put, other-site, row-any}
use Rattle.vc_audit.proofs.ProfileLists.{all-with}
use Rattle.vc_audit.proofs.ProfilePuts.{HasOneMore, WithSites, alloc-blocks, put-profile, refusal-with, with-sites}
use Rattle.vc_audit.proofs.ProfileSites.{some-of}
use Rattle.vc_audit.proofs.ProfileRows.{IsRowWith, distinct-put, peak-with, peaks-put, put-own, rows-put}

-- no block stands at an address that none has
pub all-elsewhere : (a : ℕ) (bs : List (Block ℕ)) → ¬ HasBlock bs a → AllByRecursion (λ b. address_of b ≢ a) bs
all-elsewhere a [] fresh = tt
all-elsewhere a (b ∷ bs) fresh = (λ e. fresh (0, omega arith, e), all-elsewhere a bs (λ h. fresh (suc h.0, omega (arith, h.1), h.2)))

-- the call of the best region is that of the profile without its sites
pub alloc-bare : (t : Sites) (r : Layout ℕ) (terms : Terms) (tag : ℕ) (site : List ℕ) (size align : ℕ) (u : Bool) → best_alloc terms r tag size align u ≡ relabel_outcome bare (best_alloc terms (with_sites t r) (tag, site) size align u)
alloc-bare t r terms tag site size align u =
    ap (λ l. best_alloc terms l tag size align u) (sym (bare-layout t r)) ∙ best_alloc-relabel bare terms (with_sites t r) (tag, site) size align u

pub alloc-refused : (t : Sites) (r : Layout ℕ) (es : Rows) (terms : Terms) (tag : ℕ) (site : List ℕ) (size align : ℕ) (e : RegionFault) (name : List ℕ) → site ≡ name → IsRefusal (best_alloc terms r tag size align) e → IsRefusal (profile_alloc terms (profile t r es) tag name size align) e
alloc-refused t r es terms tag site size align e name named h =
    subst (λ x. IsRefusal (profile_alloc terms (profile t r es) tag x size align) e) named
    (refusal-with (profile_after (with_site site (peaks_of es))) (best_alloc terms r tag size align) (best_alloc terms (with_sites t r) (tag, site) size align) (alloc-bare t r terms tag site size align) e h)

-- the sums of the site have room for one more
pub few-bytes : {r : Layout ℕ} {t : Sites} {es : Rows} (site : List ℕ) (v : Row) → IsCounted r t es → v ≡ row_for site es → v.bytes ≤ 16777216 * 4294967295
few-bytes {r} {t} {es} site v counted is =
    let S = map (with_its_site t) r.blocks in
    let row = subst (λ x. IsRow S (site, x)) (sym is) (row-any t es site r.blocks counted.held counted.counted) in
    let sizes : AllByRecursion (λ (b : Block (ℕ × List ℕ)). b.size ≤ 16777216) S = all-map (λ (b : Block (ℕ × List ℕ)). b.size ≤ 16777216) (with_its_site t) r.blocks (all-weaken (IsHeld t es) (λ b. b.size ≤ 16777216) r.blocks (λ b h. h.most) counted.held) in
    omega (arith, bytes-few site S sizes, row.blocks_are, row.bytes_are, row.few)

pub few-blocks : {r : Layout ℕ} {t : Sites} {es : Rows} (site : List ℕ) (v : Row) → IsCounted r t es → v ≡ row_for site es → v.blocks ≤ length r.blocks
few-blocks {r} {t} {es} site v counted is =
    let S = map (with_its_site t) r.blocks in
    let row = subst (λ x. IsRow S (site, x)) (sym is) (row-any t es site r.blocks counted.held counted.counted) in
    omega (arith, blocks-few site S, row.blocks_are, length-map r.blocks (with_its_site t))

-- a block is put at an address that none has, with a site that has the row and room for one more
pub record IsPutAt (r : Layout ℕ) (t t' : Sites) (es : Rows) (a size : ℕ) (site : List ℕ) (v : Row) : Type 0 where
  pub counted : IsCounted r t es
  pub most : size ≤ 16777216
  pub fresh : ¬ HasBlock r.blocks a
  pub own : site_at a t' ≡ Some site
  pub others : (q : ℕ) → q ≢ a → IsSome (site_at q t) → site_at q t' ≡ site_at q t
  pub row : v ≡ row_for site es
  pub few : v.blocks < 4294967295

module _ {r : Layout ℕ} {t t' : Sites} {es : Rows} {a size : ℕ} {site : List ℕ} {v : Row} (new : IsPutAt r t t' es a size site v) (terms : Terms) (tag align : ℕ) (r' : Layout ℕ) (placed : IsPut (best_alloc terms r tag size align false) a r')
    (w : Row) (with : IsRowWith v (v.blocks + 1) (v.bytes + size) w) where
  abbrev S : List (Block (ℕ × List ℕ))
  S = map (with_its_site t) r.blocks

  abbrev outcome : Outcome (Put (Layout (ℕ × List ℕ)))
  outcome = best_alloc terms (with_sites t r) (tag, site) size align false

  abbrev es' : Rows
  es' = insert_entry bytes_eq es site w

  put : WithSites outcome a r' (HasOneMore (with_sites t r) (tag, site) size)
  put = with-sites outcome a r' (HasOneMore (with_sites t r) (tag, site) size) (subst (λ o. IsPut o a r') (alloc-bare t r terms tag site size align false) placed) (alloc-blocks terms (with_sites t r) (tag, site) size align false)

  abbrev q : Layout (ℕ × List ℕ)
  q = put.put.region

  abbrev z : Block (ℕ × List ℕ)
  z = zeros (tag, site) size put.put.at

  z-at : address_of z ≡ a
  z-at = sym put.address

  z-kept : IsKept t' z
  z-kept = ap (λ n. site_at n t') z-at ∙ new.own

  elsewhere : AllByRecursion (λ b. address_of b ≢ a) r.blocks
  elsewhere = all-elsewhere a r.blocks new.fresh

  old-kept : AllByRecursion (IsKept t') S
  old-kept =
      all-map (IsKept t') (with_its_site t) r.blocks
      (all-both (IsHeld t es) (λ b. address_of b ≢ a) (λ b. IsKept t' (with_its_site t b)) r.blocks (λ b h other. new.others (address_of b) other h.kept ∙ some-of (site_at (address_of b) t) [] h.kept) new.counted.held elsewhere)

  all-kept : AllByRecursion (IsKept t') q.blocks
  all-kept = subst (AllByRecursion (IsKept t')) (sym put.holds) (all-with (IsKept t') z S z-kept old-kept)

  layout-is : with_sites t' r' ≡ q
  layout-is = ap (with_sites t') put.layout ∙ kept-layout t' q all-kept

  blocks-more : (x : List ℕ) → site_blocks x q.blocks ≡ one x z + site_blocks x S
  blocks-more x = ap (site_blocks x) put.holds ∙ (blocks-total x (with_block z S) ∙ (total-with (one x) z S ∙ ap (λ n. one x z + n) (sym (blocks-total x S))))

  bytes-more : (x : List ℕ) → site_bytes x q.blocks ≡ size_at x z + site_bytes x S
  bytes-more x = ap (site_bytes x) put.holds ∙ (bytes-total x (with_block z S) ∙ (total-with (size_at x) z S ∙ ap (λ n. size_at x z + n) (sym (bytes-total x S))))

  row-is : IsRow S (site, v)
  row-is = subst (λ x. IsRow S (site, x)) (sym new.row) (row-any t es site r.blocks new.counted.held new.counted.counted)

  own-one : one site z ≡ 1
  own-one = ap (λ v. cond v 1 0) (own_bytes site)

  own-size : size_at site z ≡ size
  own-size = ap (λ v. cond v size 0) (own_bytes site)

  same : (x : List ℕ) → bytes_eq site x ≡ false → (site_blocks x q.blocks ≡ site_blocks x S) × (site_bytes x q.blocks ≡ site_bytes x S)
  same x e =
      let none : one x z ≡ 0 = ap (λ v. cond v 1 0) (other-site site x e) in
      let no_size : size_at x z ≡ 0 = ap (λ v. cond v size 0) (other-site site x e) in
      (omega (arith, blocks-more x, none), omega (arith, bytes-more x, no_size))

  w-is : IsRow q.blocks (site, w)
  w-is = record {
    blocks_are = omega (arith, row-is.blocks_are, blocks-more site, own-one, with.blocks);
    bytes_are = omega (arith, row-is.bytes_are, bytes-more site, own-size, with.bytes);
    few = omega (arith, new.few, with.blocks);
    peak = omega (arith, peak-with v v _ _ w refl with);
  }

  z-held : IsHeld t' es' (relabel_block bare z)
  z-held = record {
    kept = ap is_some z-kept;
    row = subst (λ o. IsSome (lookup (bytes_eq (unwrap_or o [])) es')) (sym z-kept) (put-own site w es);
    most = new.most;
  }

  old-held : AllByRecursion (λ (c : Block (ℕ × List ℕ)). IsHeld t' es' (relabel_block bare c)) S
  old-held =
      all-map (λ (c : Block (ℕ × List ℕ)). IsHeld t' es' (relabel_block bare c)) (with_its_site t) r.blocks
      (all-both (IsHeld t es) (λ b. address_of b ≢ a) (IsHeld t' es') r.blocks (λ b h other. held-put t t' es site w b h (new.others (address_of b) other h.kept)) new.counted.held elsewhere)

  pub counted-put : IsCounted r' t' es'
  counted-put = record {
    held =
        subst (λ (l : Layout ℕ). AllByRecursion (IsHeld t' es') l.blocks) (sym put.layout)
        (all-map (IsHeld t' es') (relabel_block bare) q.blocks
        (subst (AllByRecursion (λ (c : Block (ℕ × List ℕ)). IsHeld t' es' (relabel_block bare c))) (sym put.holds) (all-with (λ (c : Block (ℕ × List ℕ)). IsHeld t' es' (relabel_block bare c)) z S z-held old-held)));
    counted = subst (λ (l : Layout (ℕ × List ℕ)). AllByRecursion (IsRow l.blocks) es') (sym layout-is) (rows-put S q.blocks site w w-is same es new.counted.distinct new.counted.counted);
    distinct = distinct-put site w es new.counted.distinct;
  }

  put-is : IsPut (profile_alloc terms (profile t r es) tag site size align false) a (profile t' r' es')
  put-is =
      let made : Layout (ℕ × List ℕ) → List (List ℕ × ℕ) → Profile ℕ = λ l ps. record { layout = l; peaks = ps } in
      put-profile (with_site site (peaks_of es)) outcome a r' (HasOneMore (with_sites t r) (tag, site) size) put (profile t' r' es')
      (ap (λ l. made l (peaks_of es')) layout-is ∙ ap (made q) (peaks-put S q.blocks site w w-is same es new.counted.distinct new.counted.counted (peak-with v (row_for site es) _ _ w new.row with)))

  pub profile-put : (name : List ℕ) → site ≡ name → (rows : Rows) → rows ≡ es' → IsPut (profile_alloc terms (profile t r es) tag name size align false) a (profile t' r' rows)
  profile-put name named rows is =
      subst (λ x. IsPut (profile_alloc terms (profile t r es) tag x size align false) a (profile t' r' rows)) named
      (subst (λ v. IsPut (profile_alloc terms (profile t r es) tag site size align false) a (profile t' r' v)) (sym is) put-is)
