-- What each call of a region does to the sizes of blocks that have another name than one.
use Rattle.vc_base.proofs.Common.{◌≡◌, ℕ, ◌+◌, ◌-◌, ◌≤◌, min, Bool, true, false, cond, List, [], ◌∷◌, map, replicate, ℤ, Some, None, sum, Option, find, sym, refl, ap, ◌∙◌, ⊎_elim, arith, cases_Bool, sum-map, sum_by-cons, none-some, same_Some, bytes_eq-Decides, best_alloc, without_block_at, Terms, if_latest, last_alloc, last_resize, latest, Block, Layout, is_at, without_block, Done, NotLast, Outcome, Put, Refused, done_as, outcome_as, Pool, pool_alloc, pool_resize, best_resize, change_block, rewritten_block}
use Rattle.vc_audit.specs.Debug.{Debug, guard_byte, put_with_guards, guarded_offset, guarded_place, guarded_size, outcome_by, put_with_mark, user_block, user_size}
use Rattle.vc_audit.specs.Profile.{Profile, profile_after, with_site}
use Rattle.vc_commands.specs.Blocks.{is_name_of}
use Rattle.vc_commands.specs.Home.{Label}
use Rattle.vc_region.specs.Region.{OfBest, OfPool, OfLast, OfDebug, OfProfile, Region, blocks_of, region_align, region_alloc, region_compact, region_free, region_poke, region_resize, region_watch, region_write}
use Rattle.vc_region.specs.Stat.{stat_of}
use Rattle.vc_counts.proofs.Others.{AreMine, mine-named, mine-user, others, others-named, others-user, others-without, others-written, user_weigh}
use Rattle.vc_counts.proofs.RegionLends.{either}
use Rattle.vc_counts.proofs.RegionOthers.{StaysBest, StaysPool, keeps-best, keeps-last, keeps-pool, stays-cell, stays-kept, stays-last, stays-resize}

-- a size as it is
abbrev pub whole : ℕ → ℕ
whole size = size

-- the sizes of blocks that some labels don't have
abbrev pub others_in : (Label → Bool) → Region Label → ℕ
others_in mine r = others mine whole (blocks_of r)

-- whether a label is none of these
abbrev pub no_label : {L : Type 0} → L → Bool
no_label l = false

-- the bytes of all blocks are their sizes
sizes-sum : {L : Type 0} (bs : List (Block L)) → sum (map (λ b. b.size) bs) ≡ others no_label whole bs
sizes-sum [] = refl
sizes-sum (b ∷ bs) =
    sum-map (λ c. c.size) (b ∷ bs)
    ∙ (sum_by-cons (λ c. c.size) b bs ∙ ap (λ n. b.size + n) (sym (sum-map (λ c. c.size) bs) ∙ sizes-sum bs))

pub busy-sizes : (r : Region Label) → (stat_of r).sbusy ≡ others_in no_label r
busy-sizes (OfBest l) = sizes-sum l.blocks
busy-sizes (OfPool p) = sizes-sum p.layout.blocks
busy-sizes (OfLast l) = sizes-sum l.blocks
busy-sizes (OfDebug d) = sizes-sum (blocks_of (OfDebug d))
busy-sizes (OfProfile p) = sizes-sum (blocks_of (OfProfile p))

module _ (mine : Label → Bool) where
  -- the others stay in what a call gives
  abbrev pub StaysIn : Region Label → Outcome (Put (Region Label)) → Type 0
  StaysIn r (Done p) = others_in mine p.region ≡ others_in mine r
  StaysIn r (Refused why) = Unit {0}

  abbrev pub LeftIn : Region Label → Outcome (Region Label) → Type 0
  LeftIn r (Done r') = others_in mine r' ≡ others_in mine r
  LeftIn r (Refused why) = Unit {0}

  in-best : (l : Layout Label) (o : Outcome (Put (Layout Label))) → StaysBest mine whole l.blocks o → StaysIn (OfBest l) (outcome_as OfBest o)
  in-best l (Done p) e = e
  in-best l (Refused why) e = tt

  in-last : (l : Layout Label) (o : Outcome (Put (Layout Label))) → StaysBest mine whole l.blocks o → StaysIn (OfLast l) (outcome_as OfLast o)
  in-last l (Done p) e = e
  in-last l (Refused why) e = tt

  in-pool : (p : Pool Label) (o : Outcome (Put (Pool Label))) → StaysPool mine whole p.layout.blocks o → StaysIn (OfPool p) (outcome_as OfPool o)
  in-pool p (Done q) e = e
  in-pool p (Refused why) e = tt

  -- bytes are written at two offsets of a block with guards
  user-written : (at : ℕ × ℕ) (off off' : ℕ) (src src' : List ℕ) (bs bs' : List (Block Label)) → others mine user_weigh bs ≡ others mine user_weigh bs' → others mine whole (map user_block (change_block (rewritten_block off' src') at (change_block (rewritten_block off src) at bs))) ≡ others mine whole (map user_block bs')
  user-written at off off' src src' bs bs' e =
      others-user mine (change_block (rewritten_block off' src') at (change_block (rewritten_block off src) at bs))
      ∙ (others-written mine user_weigh at off' src' (change_block (rewritten_block off src) at bs)
      ∙ (others-written mine user_weigh at off src bs ∙ (e ∙ sym (others-user mine bs'))))

  in-guards : (d : Debug Label) (size : ℕ) (o : Outcome (Put (Layout Label))) → StaysBest mine user_weigh d.best.blocks o → StaysIn (OfDebug d) (outcome_as OfDebug (outcome_by (put_with_guards d.marks size) o))
  in-guards d size (Done p) e =
      user-written p.at 0 (32 + size) (replicate 32 guard_byte) (replicate 16 guard_byte) p.region.blocks d.best.blocks e
  in-guards d size (Refused why) e = tt

  in-resized : (d : Debug Label) (at : ℕ × ℕ) (kept size : ℕ) (o : Outcome (Put (Layout Label))) → StaysBest mine user_weigh d.best.blocks o → StaysIn (OfDebug d) (outcome_as OfDebug (outcome_by (put_with_mark d.marks at kept size) o))
  in-resized d at kept size (Done p) e =
      user-written p.at (32 + kept) (32 + size) (replicate (size - kept) 0) (replicate 16 guard_byte) p.region.blocks d.best.blocks e
  in-resized d at kept size (Refused why) e = tt

  -- whether a label and a site have one of the labels
  abbrev at_site : Label × List ℕ → Bool
  at_site l = mine l.0

  in-profile : (p : Profile Label) (peaks : List (List ℕ × ℕ)) (o : Outcome (Put (Layout (Label × List ℕ)))) → StaysBest at_site whole p.layout.blocks o → StaysIn (OfProfile p) (outcome_as OfProfile (outcome_as (profile_after peaks) o))
  in-profile p peaks (Done q) e =
      others-named (λ (l : Label × List ℕ). l.0) mine whole q.region.blocks ∙ (e ∙ sym (others-named (λ (l : Label × List ℕ). l.0) mine whole p.layout.blocks))
  in-profile p peaks (Refused why) e = tt

  module _ (label : Label) (is : mine label ≡ true) where
    best-stays : {M : Type 0} (of : M → Bool) (weigh : ℕ → ℕ) (terms : Terms) (l : Layout M) (m : M) → of m ≡ true → (size align : ℕ) (refused : Bool) → StaysBest of weigh l.blocks (best_alloc terms l m size align refused)
    best-stays of weigh terms l m own size align refused =
        stays-kept of weigh (λ (r : Layout _). r.blocks) l.blocks (best_alloc terms l m size align refused) (keeps-best of weigh m own terms l size align refused)

    pub alloc-stays : (terms : Terms) (r : Region Label) (site : List ℕ) (size : ℕ) (refused : Bool) → StaysIn r (region_alloc terms r label site size refused)
    alloc-stays terms (OfBest l) site size refused = in-best l (best_alloc terms l label size 32 refused) (best-stays mine whole terms l label is size 32 refused)
    alloc-stays terms (OfPool p) site size refused =
        in-pool p (pool_alloc terms p label size refused)
        (stays-kept mine whole (λ (q : Pool Label). q.layout.blocks) p.layout.blocks (pool_alloc terms p label size refused) (keeps-pool mine whole label is terms p size refused))
    alloc-stays terms (OfLast l) site size refused =
        in-last l (last_alloc terms l label size refused)
        (stays-kept mine whole (λ (r : Layout Label). r.blocks) l.blocks (last_alloc terms l label size refused) (keeps-last mine whole label is terms l size refused))
    alloc-stays terms (OfDebug d) site size refused =
        in-guards d size (best_alloc terms d.best label (guarded_size size) 32 refused) (best-stays mine user_weigh terms d.best label is (guarded_size size) 32 refused)
    alloc-stays terms (OfProfile p) site size refused =
        in-profile p (with_site site p.peaks) (best_alloc terms p.layout (label, site) size 32 refused) (best-stays at_site whole terms p.layout (label, site) is size 32 refused)

    pub align-stays : (terms : Terms) (r : Region Label) (site : List ℕ) (size align : ℕ) (refused : Bool) → StaysIn r (region_align terms r label site size align refused)
    align-stays terms (OfBest l) site size align refused = in-best l (best_alloc terms l label size align refused) (best-stays mine whole terms l label is size align refused)
    align-stays terms (OfPool p) site size align refused = tt
    align-stays terms (OfLast l) site size align refused = tt
    align-stays terms (OfDebug d) site size align refused = tt
    align-stays terms (OfProfile p) site size align refused =
        in-profile p (with_site site p.peaks) (best_alloc terms p.layout (label, site) size align refused) (best-stays at_site whole terms p.layout (label, site) is size align refused)

  -- a user's block lies behind its guard
  abbrev pub IsBehind : Region Label → ℕ × ℕ → Type 0
  IsBehind (OfDebug d) at = 32 ≤ at.1
  IsBehind r at = Unit {0}

  module _ (at : ℕ × ℕ) where
    abbrev site_mine : (p : Profile Label) → AreMine mine whole at (blocks_of (OfProfile p)) → AreMine at_site whole at p.layout.blocks
    site_mine p all = mine-named (λ (l : Label × List ℕ). l.0) mine whole at p.layout.blocks all

    pub resize-stays : (terms : Terms) (r : Region Label) (size : ℕ) (may_move refused : Bool) → IsBehind r at → AreMine mine whole at (blocks_of r) → StaysIn r (region_resize terms r at size may_move refused)
    resize-stays terms (OfBest l) size may_move refused behind all =
        in-best l (best_resize terms l at size may_move refused) (stays-resize mine whole at terms l size may_move refused all)
    resize-stays terms (OfPool p) size may_move refused behind all = in-pool p (pool_resize p at size) (stays-cell mine whole at p size all)
    resize-stays terms (OfLast l) size may_move refused behind all =
        in-last l (last_resize terms l at size may_move refused) (stays-last mine whole at terms l size may_move refused all)
    resize-stays terms (OfDebug d) size may_move refused behind all =
        in-resized d at (min (user_size d at) size) size (best_resize terms d.best (guarded_place at) (guarded_size size) may_move refused)
        (stays-resize mine user_weigh (guarded_place at) terms d.best (guarded_size size) may_move refused (mine-user mine at behind d.best.blocks all))
    resize-stays terms (OfProfile p) size may_move refused behind all =
        in-profile p p.peaks (best_resize terms p.layout at size may_move refused) (stays-resize at_site whole at terms p.layout size may_move refused (site_mine p all))

    latest-left : (l : Layout Label) (o : Option (Block Label)) → AreMine mine whole at l.blocks → LeftIn (OfLast l) (done_as OfLast (if_latest at (λ b. Done (without_block_at l at)) o))
    latest-left l None all = tt
    latest-left l (Some b) all =
        either (λ o. LeftIn (OfLast l) (done_as OfLast o)) (is_at at b) (Done (without_block_at l at)) (Refused NotLast) (others-without mine whole at l.blocks all) tt

    pub free-left : (r : Region Label) → IsBehind r at → AreMine mine whole at (blocks_of r) → LeftIn r (region_free r at)
    free-left (OfBest l) behind all = others-without mine whole at l.blocks all
    free-left (OfPool p) behind all = others-without mine whole at p.layout.blocks all
    free-left (OfLast l) behind all = latest-left l (latest l) all
    free-left (OfDebug d) behind all =
        others-user mine (without_block (guarded_place at) d.best.blocks)
        ∙ (others-without mine user_weigh (guarded_place at) d.best.blocks (mine-user mine at behind d.best.blocks all) ∙ sym (others-user mine d.best.blocks))
    free-left (OfProfile p) behind all =
        others-named (λ (l : Label × List ℕ). l.0) mine whole (without_block at p.layout.blocks)
        ∙ (others-without at_site whole at p.layout.blocks (site_mine p all) ∙ sym (others-named (λ (l : Label × List ℕ). l.0) mine whole p.layout.blocks))

    user-bytes : (d : Debug Label) (off : ℕ) (src : List ℕ) → others mine whole (map user_block (change_block (rewritten_block off src) (guarded_place at) d.best.blocks)) ≡ others mine whole (map user_block d.best.blocks)
    user-bytes d off src =
        others-user mine (change_block (rewritten_block off src) (guarded_place at) d.best.blocks)
        ∙ (others-written mine user_weigh (guarded_place at) off src d.best.blocks ∙ sym (others-user mine d.best.blocks))

    -- bytes of a block
    pub write-left : (r : Region Label) (off : ℕ) (src : List ℕ) → others_in mine (region_write r at off src) ≡ others_in mine r
    write-left (OfBest l) off src = others-written mine whole at off src l.blocks
    write-left (OfPool p) off src = others-written mine whole at off src p.layout.blocks
    write-left (OfLast l) off src = others-written mine whole at off src l.blocks
    write-left (OfDebug d) off src = user-bytes d (32 + off) src
    write-left (OfProfile p) off src =
        others-named (λ (l : Label × List ℕ). l.0) mine whole (change_block (rewritten_block off src) at p.layout.blocks)
        ∙ (others-written at_site whole at off src p.layout.blocks ∙ sym (others-named (λ (l : Label × List ℕ). l.0) mine whole p.layout.blocks))

    pub poke-left : (r : Region Label) (off : ℤ) (byte : ℕ) → others_in mine (region_poke r at off byte) ≡ others_in mine r
    poke-left (OfBest l) off byte = refl
    poke-left (OfPool p) off byte = refl
    poke-left (OfLast l) off byte = refl
    poke-left (OfDebug d) off byte = user-bytes d (guarded_offset off) (byte ∷ [])
    poke-left (OfProfile p) off byte = refl

    pub watch-left : (r : Region Label) (line : ℕ) → others_in mine (region_watch r at line) ≡ others_in mine r
    watch-left (OfBest l) line = refl
    watch-left (OfPool p) line = refl
    watch-left (OfLast l) line = refl
    watch-left (OfDebug d) line = refl
    watch-left (OfProfile p) line = refl

  -- no block goes with its segment
  pub compact-left : (r : Region Label) → others_in mine (region_compact r) ≡ others_in mine r
  compact-left (OfBest l) = refl
  compact-left (OfPool p) = refl
  compact-left (OfLast l) = refl
  compact-left (OfDebug d) = refl
  compact-left (OfProfile p) = refl

  behind-user : (test : Block Label → Bool) (bs : List (Block Label)) (b : Block Label) → find test (map user_block bs) ≡ Some b → 32 ≤ b.off
  behind-user test [] b found = absurd (none-some b found)
  behind-user test (c ∷ cs) b found =
      ⊎_elim
      (λ here. omega (arith, ap (λ (k : Block Label). k.off) (same_Some (user_block c) b (sym (ap (λ v. cond v (Some (user_block c)) (find test (map user_block cs))) here) ∙ found))))
      (λ away. behind-user test cs b (sym (ap (λ v. cond v (Some (user_block c)) (find test (map user_block cs))) away) ∙ found))
      (cases_Bool (test (user_block c)))

  pub found-behind : (test : Block Label → Bool) (r : Region Label) (b : Block Label) → find test (blocks_of r) ≡ Some b → IsBehind r (b.seg, b.off)
  found-behind test (OfBest l) b found = tt
  found-behind test (OfPool p) b found = tt
  found-behind test (OfLast l) b found = tt
  found-behind test (OfDebug d) b found = behind-user test d.best.blocks b found
  found-behind test (OfProfile p) b found = tt

-- a name is its own
pub name-own : (x : List ℕ) → is_name_of x (Some x) ≡ true
name-own x = (bytes_eq-Decides x x).1 refl
