-- Every call of a profile region commutes with a change of its labels that leaves the sites.
use Rattle.vc_base.proofs.Common.{◌≡◌, ℕ, max, Bool, true, false, cond, List, [], ◌∷◌, map, length, sum, filter, sym, refl, ap, ◌∙◌, AllByRecursion, best_alloc, without_block_at, cleared_layout, compact_count, compacted_layout, Terms, Block, Layout, relabel_block, relabel_layout, Done, Outcome, Put, Refused, outcome_as, best_resize, rewritten_block, with_bytes_at}
use Rattle.vc_model.proofs.Relabel.{best_alloc-relabel, best_resize-relabel, change_block-relabel, compacted-relabel, compact_count-relabel, relabel-alike, relabel_outcome, without_block-relabel}
use Rattle.vc_seg.proofs.Stats.{layout_stat-relabel}
use Rattle.vc_seg.specs.Stat.{layout_stat}
use Rattle.vc_seg.specs.declared.profile_row.ProfileRow.{ProfileRow}
use Rattle.vc_audit.specs.Profile.{Profile, bare_layout, has_site, rows_with_peaks, profile_after, profile_alloc, profile_clear, profile_compact, profile_free, profile_resize, profile_rows, profile_write, relabel_profile, row_of, site_bytes, site_sizes, with_site}

module _ {L M : Type 0} (f : L → M) where
  -- the same of labels with sites
  abbrev pub named : L × List ℕ → M × List ℕ
  named l = (f l.0, l.1)

  abbrev Sited : Type 0
  Sited = Block (L × List ℕ)

  abbrev with : Layout (M × List ℕ) → List (List ℕ × ℕ) → Profile M
  with l ps = record { layout = l; peaks = ps }

  abbrev layout : List (ℕ × ℕ) → List (Block (M × List ℕ)) → Layout (M × List ℕ)
  layout segments blocks = record { segments = segments; blocks = blocks }

  pub site_sizes-relabel : (site : List ℕ) (bs : List Sited) → site_sizes site (map (relabel_block named) bs) ≡ site_sizes site bs
  site_sizes-relabel site [] = refl
  site_sizes-relabel site (b ∷ bs) =
      elim (has_site site b) as (λ v. map (λ (c : Block (M × List ℕ)). c.size) (cond v (relabel_block named b ∷ filter (has_site site) (map (relabel_block named) bs)) (filter (has_site site) (map (relabel_block named) bs))) ≡ map (λ (c : Sited). c.size) (cond v (b ∷ filter (has_site site) bs) (filter (has_site site) bs)))
      [ true ↦ ap (λ ns. b.size ∷ ns) (site_sizes-relabel site bs) | false ↦ site_sizes-relabel site bs ]

  peaked-relabel : (bs : List Sited) (ps : List (List ℕ × ℕ)) → rows_with_peaks (map (relabel_block named) bs) ps ≡ rows_with_peaks bs ps
  peaked-relabel bs [] = refl
  peaked-relabel bs (p ∷ ps) =
      ap (λ ns. (p.0, max p.1 (sum ns)) ∷ rows_with_peaks (map (relabel_block named) bs) ps) (site_sizes-relabel p.0 bs)
      ∙ ap (λ qs. (p.0, max p.1 (site_bytes p.0 bs)) ∷ qs) (peaked-relabel bs ps)

  pub after-relabel : (ps : List (List ℕ × ℕ)) (l : Layout (L × List ℕ)) → profile_after ps (relabel_layout named l) ≡ relabel_profile f (profile_after ps l)
  after-relabel ps l = ap (with (relabel_layout named l)) (peaked-relabel l.blocks ps)

  outcome-relabel : (ps : List (List ℕ × ℕ)) (o : Outcome (Put (Layout (L × List ℕ)))) → outcome_as (profile_after ps) (relabel_outcome named o) ≡ outcome_as (relabel_profile f) (outcome_as (profile_after ps) o)
  outcome-relabel ps (Done p) = ap (λ q. let x : Put (Profile M) = record { at = p.at; region = q; granted = p.granted } in Done x) (after-relabel ps p.region)
  outcome-relabel ps (Refused why) = refl

  pub profile_alloc-relabel : (terms : Terms) (p : Profile L) (label : L) (site : List ℕ) (size align : ℕ) (refused : Bool) → profile_alloc terms (relabel_profile f p) (f label) site size align refused ≡ outcome_as (relabel_profile f) (profile_alloc terms p label site size align refused)
  profile_alloc-relabel terms p label site size align refused =
      ap (outcome_as (profile_after (with_site site p.peaks))) (best_alloc-relabel named terms p.layout (label, site) size align refused)
      ∙ outcome-relabel (with_site site p.peaks) (best_alloc terms p.layout (label, site) size align refused)

  pub profile_resize-relabel : (terms : Terms) (p : Profile L) (at : ℕ × ℕ) (size : ℕ) (may_move refused : Bool) → profile_resize terms (relabel_profile f p) at size may_move refused ≡ outcome_as (relabel_profile f) (profile_resize terms p at size may_move refused)
  profile_resize-relabel terms p at size may_move refused =
      ap (outcome_as (profile_after p.peaks)) (best_resize-relabel named terms p.layout at size may_move refused)
      ∙ outcome-relabel p.peaks (best_resize terms p.layout at size may_move refused)

  pub profile_free-relabel : (p : Profile L) (at : ℕ × ℕ) → profile_free (relabel_profile f p) at ≡ relabel_profile f (profile_free p at)
  profile_free-relabel p at =
      ap (λ bs. profile_after p.peaks (layout p.layout.segments bs)) (sym (without_block-relabel named at p.layout.blocks))
      ∙ after-relabel p.peaks (without_block_at p.layout at)

  pub profile_write-relabel : (p : Profile L) (at : ℕ × ℕ) (off : ℕ) (src : List ℕ) → profile_write (relabel_profile f p) at off src ≡ relabel_profile f (profile_write p at off src)
  profile_write-relabel p at off src =
      ap (λ bs. profile_after p.peaks (layout p.layout.segments bs)) (sym (change_block-relabel named (rewritten_block off src) (rewritten_block off src) (λ c. refl) at p.layout.blocks))
      ∙ after-relabel p.peaks (with_bytes_at p.layout at off src)

  pub profile_clear-relabel : (p : Profile L) → profile_clear (relabel_profile f p) ≡ relabel_profile f (profile_clear p)
  profile_clear-relabel p = after-relabel p.peaks (cleared_layout p.layout)

  pub profile_compact-relabel : (p : Profile L) → profile_compact (relabel_profile f p) ≡ relabel_profile f (profile_compact p)
  profile_compact-relabel p = ap (profile_after p.peaks) (compacted-relabel named p.layout) ∙ after-relabel p.peaks (compacted_layout p.layout)

  -- the rows say nothing of the labels
  rows-are : (bs : List Sited) (ps : List (List ℕ × ℕ)) → map (row_of (map (relabel_block named) bs)) ps ≡ map (row_of bs) ps
  rows-are bs [] = refl
  rows-are bs (p ∷ ps) =
      let of : List ℕ → ProfileRow = λ ns. record { site = p.0; blocks = length ns; bytes = sum ns; peak = p.1 } in
      ap (λ ns. of ns ∷ map (row_of (map (relabel_block named) bs)) ps) (site_sizes-relabel p.0 bs)
      ∙ ap (λ rs. row_of bs p ∷ rs) (rows-are bs ps)

  pub profile_rows-relabel : (p : Profile L) → profile_rows (relabel_profile f p) ≡ profile_rows p
  profile_rows-relabel p = rows-are p.layout.blocks p.peaks

  -- the layout without the sites has the other labels
  bare-blocks : (bs : List Sited) → map (relabel_block (λ (l : M × List ℕ). l.0)) (map (relabel_block named) bs) ≡ map (relabel_block f) (map (relabel_block (λ (l : L × List ℕ). l.0)) bs)
  bare-blocks [] = refl
  bare-blocks (b ∷ bs) = ap (λ cs. (let c : Block M = record { label = f b.label.0; seg = b.seg; off = b.off; size = b.size; bytes = b.bytes } in c) ∷ cs) (bare-blocks bs)

  pub bare_layout-relabel : (p : Profile L) → bare_layout (relabel_profile f p) ≡ relabel_layout f (bare_layout p)
  bare_layout-relabel p = ap (λ bs. let l : Layout M = record { segments = p.layout.segments; blocks = bs } in l) (bare-blocks p.layout.blocks)

  pub profile_stat-relabel : (p : Profile L) → layout_stat (bare_layout (relabel_profile f p)) ≡ layout_stat (bare_layout p)
  profile_stat-relabel p = ap (λ (l : Layout M). layout_stat l) (bare_layout-relabel p) ∙ layout_stat-relabel f (bare_layout p)

  pub profile_count-relabel : (p : Profile L) → compact_count (bare_layout (relabel_profile f p)) ≡ compact_count (bare_layout p)
  profile_count-relabel p = ap (λ (l : Layout M). compact_count l) (bare_layout-relabel p) ∙ compact_count-relabel f (bare_layout p)

-- labels that are the same on the blocks
pub relabel_profile-alike : {L M : Type 0} (f g : L → M) (p : Profile L) → AllByRecursion (λ b. f b.label ≡ g b.label) (bare_layout p).blocks → relabel_profile f p ≡ relabel_profile g p
relabel_profile-alike {L} {M} f g p same = ap (λ bs. let q : Profile M = record { layout = record { segments = p.layout.segments; blocks = bs }; peaks = p.peaks } in q) (relabel-alike (named f) (named g) p.layout.blocks (all p.layout.blocks same))
  where
    all : (bs : List (Block (L × List ℕ))) → AllByRecursion (λ (b : Block L). f b.label ≡ g b.label) (map (relabel_block (λ (l : L × List ℕ). l.0)) bs) → AllByRecursion (λ b. named f b.label ≡ named g b.label) bs
    all [] h = tt
    all (b ∷ bs) h = (ap (λ n. (n, b.label.1)) h.0, all bs h.1)
