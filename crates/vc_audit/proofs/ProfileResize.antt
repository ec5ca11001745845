-- What a profile region counts when a block gets another size.
use Rattle.vc_base.proofs.Common.{◌≡◌, ℕ, suc, ◌+◌, ◌-◌, ◌≤◌, Bool, false, cond, ◌≢◌, List, [], ◌∷◌, map, is_some, IsSome, Some, option_map, bytes_eq, unwrap_or, sym, refl, ap, ◌∙◌, subst, ⊎_elim, arith, cases_Bool, none-some, AllByRecursion, lookup, place_of, Terms, Block, Layout, address_of, is_at, relabel_block, relabel_layout, without_block, Outcome, Put, best_resize, HaveOwnPlaces, HasBlock, find_block}
use Rattle.indexmap.specs.IndexMap.{insert_entry}
use Rattle.vc_model.proofs.Relabel.{best_resize-relabel, relabel_outcome}
use Rattle.vc_base.proofs.Quantifiers.{all-weaken, all-both, all-map, all-unmap}
use Rattle.vc_base.proofs.Texts.{own_bytes}
use Rattle.vc_seg.specs.Answer.{IsPut, IsRefusal}
use Rattle.vc_seg.specs.declared.fault.RegionFault.{RegionFault}
use Rattle.vc_best.specs.Ask.{AsksToMove}
use Rattle.vc_audit.specs.Profile.{Profile, rows_with_peaks, profile_after, profile_resize, site_blocks, site_bytes}
use Rattle.vc_audit.specs.ProfileSums.{IsCounted, IsHeld, IsRow, Rows, Sites, peaks_of, row_for, site_at, site_of, with_its_site, with_sites}
use Rattle.vc_audit.specs.declared.profile.rows.Row.{Row}
use Rattle.vc_audit.proofs.ProfileSites.{some-of}
use Rattle.vc_audit.proofs.ProfileBare.{IsKept, bare, bare-layout, kept-layout, sited-alike, sited-find, sited-without}
use Rattle.vc_audit.proofs.ProfileCounts.{blocks-total, bytes-total, one, size_at, total-without}
use Rattle.vc_audit.proofs.ProfileFree as free
use Rattle.vc_audit.proofs.ProfileFree.{IsAtSite, profile}
use Rattle.vc_audit.proofs.ProfileHeld.{TheBlock, held-put, other-site}
use Rattle.vc_audit.proofs.ProfileLists.{all-found, all-join, all-without, others-apart, first_at, later_at}
use Rattle.vc_audit.proofs.ProfilePuts.{Keeps, WithSites, put-profile, refusal-with, resize-all, with-sites}
use Rattle.vc_audit.proofs.ProfileRows.{IsRowWith, distinct-put, peak-with, peaks-put, put-own, rows-put, site-there}

-- the block that is found stands there
has-found : (p : ℕ × ℕ) (a : ℕ) (b : Block ℕ) (bs : List (Block ℕ)) → find_block p bs ≡ Some b → address_of b ≡ a → HasBlock bs a
has-found p a b [] e at = absurd (none-some b e)
has-found p a b (c ∷ cs) e at =
    ⊎_elim
    (λ t. (0, omega arith, ap address_of (first_at p b c cs e t) ∙ at))
    (λ t. let h = has-found p a b cs (later_at p b c cs e t) at in (suc h.0, omega (arith, h.1), h.2))
    (cases_Bool (is_at p c))

pub has-block : (bs : List (Block ℕ)) (a : ℕ) → TheBlock bs a → HasBlock bs a
has-block bs a b = has-found (place_of a) a b.block bs b.found b.address

pub resize-bare : (t : Sites) (r : Layout ℕ) (terms : Terms) (at : ℕ × ℕ) (size : ℕ) (may_move u : Bool) → best_resize terms r at size may_move u ≡ relabel_outcome bare (best_resize terms (with_sites t r) at size may_move u)
resize-bare t r terms at size may_move u =
    ap (λ l. best_resize terms l at size may_move u) (sym (bare-layout t r)) ∙ best_resize-relabel bare terms (with_sites t r) at size may_move u

pub resize-refused : (t : Sites) (r : Layout ℕ) (es : Rows) (terms : Terms) (at : ℕ × ℕ) (size : ℕ) (may_move : Bool) (e : RegionFault) → IsRefusal (best_resize terms r at size may_move) e → IsRefusal (profile_resize terms (profile t r es) at size may_move) e
resize-refused t r es terms at size may_move e h =
    refusal-with (profile_after (peaks_of es)) (best_resize terms r at size may_move) (best_resize terms (with_sites t r) at size may_move) (resize-bare t r terms at size may_move) e h

-- the region without the sites asks as the best region does
pub asks-bare : {terms : Terms} (t : Sites) (r : Layout ℕ) {a size : ℕ} {may_move : Bool} → AsksToMove terms r a size may_move → AsksToMove terms (relabel_layout bare (with_sites t r)) a size may_move
asks-bare {terms} t r {a} {size} {may_move} h = subst (λ (l : Layout ℕ). AsksToMove terms l a size may_move) (sym (bare-layout t r)) h

-- the block of an address with its site is at another one, of another size, and the others stay
pub record IsMovedTo (r r' : Layout ℕ) (t t' : Sites) (a to size : ℕ) (site : List ℕ) : Type 0 where
  pub places : HaveOwnPlaces r'.blocks
  pub the : TheBlock r'.blocks to
  pub sized : the.block.size ≡ size
  pub others : without_block (place_of to) r'.blocks ≡ without_block (place_of a) r.blocks
  pub kept : site_at to t' ≡ Some site
  pub others_kept : (q : ℕ) → q ≢ a → q ≢ to → site_at q t' ≡ site_at q t

module _ {r : Layout ℕ} {t : Sites} {es : Rows} {a was : ℕ} {site : List ℕ} {v : Row} {r' : Layout ℕ} {t' : Sites} {to now : ℕ} (at : IsAtSite r t es a was site v) (moved : IsMovedTo r r' t t' a to now site)
    (terms : Terms) (size : ℕ) (may_move : Bool) (most : size ≤ 16777216) (placed : IsPut (best_resize terms r (place_of a) size may_move false) to r') where
  abbrev b : Block ℕ
  b = moved.the.block

  abbrev p : ℕ × ℕ
  p = place_of a

  abbrev S : List (Block (ℕ × List ℕ))
  S = map (with_its_site t) r.blocks

  abbrev outcome : Outcome (Put (Layout (ℕ × List ℕ)))
  outcome = best_resize terms (with_sites t r) p size may_move false

  away_a : AllByRecursion (λ c. address_of c ≢ a) (without_block p r.blocks)
  away_a = free.away at

  away_to : AllByRecursion (λ c. address_of c ≢ to) (without_block p r.blocks)
  away_to =
      subst (AllByRecursion (λ c. address_of c ≢ to)) moved.others
      (all-weaken (λ c. address_of c ≢ address_of b) (λ c. address_of c ≢ to) (without_block (place_of to) r'.blocks) (λ c differs e. differs (e ∙ sym moved.the.address))
      (others-apart (place_of to) b r'.blocks moved.the.found moved.places))

  -- the sites of the others are kept as before
  rest_alike : AllByRecursion (λ c. site_at (address_of c) t' ≡ site_at (address_of c) t) (without_block p r.blocks)
  rest_alike = all-both (λ c. address_of c ≢ a) (λ c. address_of c ≢ to) (λ c. site_at (address_of c) t' ≡ site_at (address_of c) t) (without_block p r.blocks) (λ c x y. moved.others_kept (address_of c) x y) away_a away_to

  -- every block's site is kept now, but where one has moved away
  abbrev P : Block (ℕ × List ℕ) → Type 0
  P q = ((address_of q ≡ a → a ≡ to) → IsKept t' q) × (q.size ≤ 16777216)

  site-kept : (c : Block ℕ) → IsHeld t es c → site_at (address_of c) t ≡ Some (site_of t c)
  site-kept c h = some-of (site_at (address_of c) t) [] h.kept

  old-kept : AllByRecursion P S
  old-kept =
      all-map P (with_its_site t) r.blocks
      (all-join p at.the.block (λ c. P (with_its_site t c)) r.blocks at.the.found
      ((λ e. ap (λ n. site_at n t') (at.the.address ∙ e at.the.address) ∙ (moved.kept ∙ ap (λ x. Some x) (sym (free.own-is at)))), (free.own-held at).most)
      (all-both (IsHeld t es) (λ c. site_at (address_of c) t' ≡ site_at (address_of c) t) (λ c. P (with_its_site t c)) (without_block p r.blocks) (λ c h same. ((λ e. same ∙ site-kept c h), h.most))
      (all-without (IsHeld t es) p r.blocks at.counted.held) rest_alike))

  put : WithSites outcome to r' (Keeps P (λ src c h. h) size (λ c h. (h.0, most)) terms (with_sites t r) p old-kept)
  put =
      with-sites outcome to r' (Keeps P (λ src c h. h) size (λ c h. (h.0, most)) terms (with_sites t r) p old-kept)
      (subst (λ o. IsPut o to r') (resize-bare t r terms p size may_move false) placed)
      (resize-all P (λ src c h. h) size (λ c h. (h.0, most)) terms (with_sites t r) p old-kept may_move false)

  abbrev q : Layout (ℕ × List ℕ)
  q = put.put.region

  -- the block that is found is the one that has the site
  its-site : (c : Block (ℕ × List ℕ)) → find_block p S ≡ Some c → c.label.1 ≡ site
  its-site c e =
      let same : Some c ≡ Some (with_its_site t at.the.block) = sym e ∙ free.own-found at in
      let is : c ≡ with_its_site t at.the.block = cc in
      ap (λ (d : Block (ℕ × List ℕ)). d.label.1) is ∙ free.own-is at

  new-kept : AllByRecursion P q.blocks
  new-kept = put.holds (λ c e. ((λ stays. ap (λ n. site_at n t') (sym put.address) ∙ (moved.kept ∙ ap (λ x. Some x) (sym (its-site c e)))), most))

  -- none stands where it was, if it moved
  gone : AllByRecursion (λ c. address_of c ≡ a → a ≡ to) r'.blocks
  gone =
      all-join (place_of to) b (λ c. address_of c ≡ a → a ≡ to) r'.blocks moved.the.found (λ e. sym e ∙ moved.the.address)
      (subst (AllByRecursion (λ (c : Block ℕ). address_of c ≡ a → a ≡ to)) (sym moved.others) (all-weaken (λ c. address_of c ≢ a) (λ c. address_of c ≡ a → a ≡ to) (without_block p r.blocks) (λ c away e. absurd (away e)) away_a))

  gone-q : AllByRecursion (λ (c : Block (ℕ × List ℕ)). address_of c ≡ a → a ≡ to) q.blocks
  gone-q = all-unmap (λ c. address_of c ≡ a → a ≡ to) (relabel_block bare) q.blocks (subst (λ (l : Layout ℕ). AllByRecursion (λ c. address_of c ≡ a → a ≡ to) l.blocks) put.layout gone)

  layout-is : with_sites t' r' ≡ q
  layout-is =
      ap (with_sites t') put.layout
      ∙ kept-layout t' q (all-both P (λ c. address_of c ≡ a → a ≡ to) (IsKept t') q.blocks (λ c h away. h.0 away) new-kept gone-q)

  sizes : AllByRecursion (λ c. c.size ≤ 16777216) r'.blocks
  sizes =
      subst (λ (l : Layout ℕ). AllByRecursion (λ c. c.size ≤ 16777216) l.blocks) (sym put.layout)
      (all-map (λ c. c.size ≤ 16777216) (relabel_block bare) q.blocks (all-weaken P (λ c. c.size ≤ 16777216) q.blocks (λ c h. h.1) new-kept))

  pub size-most : b.size ≤ 16777216
  size-most = all-found (place_of to) b (λ c. c.size ≤ 16777216) r'.blocks moved.the.found sizes

  -- the sums change by the block's size
  abbrev S' : List (Block (ℕ × List ℕ))
  S' = map (with_its_site t') r'.blocks

  abbrev own : Block (ℕ × List ℕ)
  own = with_its_site t' b

  abbrev rest : List (Block (ℕ × List ℕ))
  rest = without_block p S

  own-kept : site_at (address_of b) t' ≡ Some site
  own-kept = ap (λ n. site_at n t') moved.the.address ∙ moved.kept

  own-is : site_of t' b ≡ site
  own-is = ap (λ o. unwrap_or o []) own-kept

  rest-is : without_block (place_of to) S' ≡ rest
  rest-is =
      sym (sited-without t' (place_of to) r'.blocks)
      ∙ (ap (map (with_its_site t')) moved.others ∙ (sited-alike t t' (without_block p r.blocks) rest_alike ∙ sited-without t p r.blocks))

  found' : find_block (place_of to) S' ≡ Some own
  found' = sited-find t' (place_of to) r'.blocks ∙ ap (option_map (with_its_site t')) moved.the.found

  blocks-now : (x : List ℕ) → site_blocks x S' ≡ one x own + site_blocks x rest
  blocks-now x =
      blocks-total x S'
      ∙ (total-without (one x) (place_of to) own S' found'
      ∙ ap (λ n. one x own + n) (sym (blocks-total x (without_block (place_of to) S')) ∙ ap (site_blocks x) rest-is))

  bytes-now : (x : List ℕ) → site_bytes x S' ≡ size_at x own + site_bytes x rest
  bytes-now x =
      bytes-total x S'
      ∙ (total-without (size_at x) (place_of to) own S' found'
      ∙ ap (λ n. size_at x own + n) (sym (bytes-total x (without_block (place_of to) S')) ∙ ap (site_bytes x) rest-is))

  own-one : one site own ≡ 1
  own-one = ap (λ v. cond v 1 0) (ap (bytes_eq site) own-is ∙ own_bytes site)

  own-size : size_at site own ≡ now
  own-size = ap (λ v. cond v b.size 0) (ap (bytes_eq site) own-is ∙ own_bytes site) ∙ moved.sized

  same : (x : List ℕ) → bytes_eq site x ≡ false → (site_blocks x S' ≡ site_blocks x S) × (site_bytes x S' ≡ site_bytes x S)
  same x e =
      let none : one x own ≡ 0 = ap (λ v. cond v 1 0) (ap (bytes_eq x) own-is ∙ other-site site x e) in
      let no_size : size_at x own ≡ 0 = ap (λ v. cond v b.size 0) (ap (bytes_eq x) own-is ∙ other-site site x e) in (
        omega (arith, blocks-now x, none, free.blocks-split at x, free.other-one at x e),
        omega (arith, bytes-now x, no_size, free.bytes-split at x, free.other-size at x e),
      )

  module _ (w : Row) (with : IsRowWith v v.blocks (v.bytes - was + now) w) where
    abbrev es' : Rows
    es' = insert_entry bytes_eq es site w

    w-is : IsRow S' (site, w)
    w-is =
        let before = free.row-is at in
        record {
          blocks_are = omega (arith, before.blocks_are, free.blocks-split at site, free.own-one at, blocks-now site, own-one, with.blocks);
          bytes_are = omega (arith, before.bytes_are, free.bytes-split at site, free.own-size at, bytes-now site, own-size, with.bytes);
          few = omega (arith, before.few, with.blocks);
          peak = omega (arith, peak-with v v _ _ w refl with);
        }

    pub counted-resized : IsCounted r' t' es'
    counted-resized = record {
      held =
          all-join (place_of to) b (IsHeld t' es') r'.blocks moved.the.found
          (record {
            kept = ap is_some own-kept;
            row = subst (λ x. IsSome (lookup (bytes_eq x) es')) (sym own-is) (put-own site w es);
            most = size-most;
          })
          (subst (AllByRecursion (IsHeld t' es')) (sym moved.others)
          (all-both (IsHeld t es) (λ c. site_at (address_of c) t' ≡ site_at (address_of c) t) (IsHeld t' es') (without_block p r.blocks) (λ c h alike. held-put t t' es site w c h alike)
          (all-without (IsHeld t es) p r.blocks at.counted.held) rest_alike));
      counted = rows-put S S' site w w-is same es at.counted.distinct at.counted.counted;
      distinct = distinct-put site w es at.counted.distinct;
    }

    put-is : IsPut (profile_resize terms (profile t r es) p size may_move false) to (profile t' r' es')
    put-is =
        let made : Layout (ℕ × List ℕ) → List (List ℕ × ℕ) → Profile ℕ = λ l ps. record { layout = l; peaks = ps } in
        put-profile (peaks_of es) outcome to r' (Keeps P (λ src c h. h) size (λ c h. (h.0, most)) terms (with_sites t r) p old-kept) put (profile t' r' es')
        (ap (made (with_sites t' r')) (peaks-put S S' site w w-is same es at.counted.distinct at.counted.counted (peak-with v (row_for site es) _ _ w at.row with) ∙ ap (rows_with_peaks S') (site-there site es (free.has-row at)))
        ∙ ap (profile_after (peaks_of es)) layout-is)

    pub profile-resized : (rows : Rows) → rows ≡ es' → IsPut (profile_resize terms (profile t r es) p size may_move false) to (profile t' r' rows)
    profile-resized rows is = subst (λ v. IsPut (profile_resize terms (profile t r es) p size may_move false) to (profile t' r' v)) (sym is) put-is
