-- What a call on one of a region's blocks does to the sizes of its other blocks: nothing.
use Rattle.vc_base.proofs.Common.{◌≡◌, ℕ, Bool, true, false, cond, List, [], ◌∷◌, ◌++◌, take, nat_lt, Some, None, Option, sym, refl, ap, ◌∙◌, subst, none-some, same_Some, best_alloc, best_need, place_in, put_in_new, put_or_ask, zeros, Terms, can_end, if_latest, last_alloc, last_need, last_place, last_resize, latest, put_behind_latest, put_in_newest, put_or_lend, resize_latest, Block, Layout, is_at, with_block, with_grant, Done, Fixed, NotLast, Outcome, PoolSize, Put, Refused, Pool, carved_in, cell_for, cell_offset, element_with, pool_alloc, pool_need, pool_resize, put_asked, put_carving, put_free, uncarved, best_resize, can_stay, outcome_of_move, resize_found, stays, Asked, Grant, Granted, NotLent, TooMany, ask, change_block, find_block, rewritten_block}
use Rattle.std.specs.List.{last_or}
use Rattle.vc_model.specs.Best.{put}
use Rattle.vc_counts.proofs.Others.{AreMine, mine-behind, mine-found, mine-with, mine-written, others, others-behind, others-sized, others-with, others-without, others-written, place-at}
use Rattle.vc_counts.proofs.RegionLends.{either}

module _ {L : Type 0} (mine : L → Bool) (weigh : ℕ → ℕ) where
  -- of blocks and what comes of them: the others stay, and so do those at a place
  pub record Keeps (bs bs' : List (Block L)) : Type 0 where
    pub same : others mine weigh bs' ≡ others mine weigh bs
    pub mine_at : (at : ℕ × ℕ) → AreMine mine weigh at bs → AreMine mine weigh at bs'

  abbrev pub KeepsBy : {R : Type 0} → (R → List (Block L)) → List (Block L) → Outcome (Put R) → Type 0
  KeepsBy of bs (Done p) = Keeps bs (of p.region)
  KeepsBy of bs (Refused why) = Unit {0}

  abbrev pub KeepsBest : List (Block L) → Outcome (Put (Layout L)) → Type 0
  KeepsBest bs o = KeepsBy (λ r. r.blocks) bs o

  abbrev pub KeepsPool : List (Block L) → Outcome (Put (Pool L)) → Type 0
  KeepsPool bs o = KeepsBy (λ p. p.layout.blocks) bs o

  -- the others stay
  abbrev pub StaysBy : {R : Type 0} → (R → List (Block L)) → List (Block L) → Outcome (Put R) → Type 0
  StaysBy of bs (Done p) = others mine weigh (of p.region) ≡ others mine weigh bs
  StaysBy of bs (Refused why) = Unit {0}

  abbrev pub StaysBest : List (Block L) → Outcome (Put (Layout L)) → Type 0
  StaysBest bs o = StaysBy (λ r. r.blocks) bs o

  abbrev pub StaysPool : List (Block L) → Outcome (Put (Pool L)) → Type 0
  StaysPool bs o = StaysBy (λ p. p.layout.blocks) bs o

  module _ (label : L) (is : mine label ≡ true) where
    keeps-with : (size : ℕ) (at : ℕ × ℕ) (bs : List (Block L)) → Keeps bs (with_block (zeros label size at) bs)
    keeps-with size at bs =
        record {
          same = others-with mine weigh (zeros label size at) is bs;
          mine_at = λ p all. mine-with mine weigh p (zeros label size at) is bs all;
        }

    keeps-behind : (size : ℕ) (at : ℕ × ℕ) (bs : List (Block L)) → Keeps bs (bs ++ zeros label size at ∷ [])
    keeps-behind size at bs =
        record {
          same = others-behind mine weigh (zeros label size at) is bs;
          mine_at = λ p all. mine-behind mine weigh p (zeros label size at) is bs all;
        }

    keeps-put : (r : Layout L) (size : ℕ) (granted : Option Grant) (o : Option (ℕ × ℕ)) → KeepsBest r.blocks (put r label size granted o)
    keeps-put r size granted None = tt
    keeps-put r size granted (Some at) = keeps-with size at r.blocks

    keeps-new : (r : Layout L) (size align : ℕ) (a : Asked) → KeepsBest r.blocks (put_in_new r label size align a)
    keeps-new r size align (Granted g) = keeps-put (with_grant r g) size (Some g) (place_in (with_grant r g) size align)
    keeps-new r size align TooMany = tt
    keeps-new r size align NotLent = tt

    keeps-placed : (terms : Terms) (r : Layout L) (size align : ℕ) (refused : Bool) (o : Option (ℕ × ℕ)) → KeepsBest r.blocks (put_or_ask terms r label size align refused o)
    keeps-placed terms r size align refused (Some at) = keeps-with size at r.blocks
    keeps-placed terms r size align refused None = keeps-new r size align (ask terms (best_need terms size align) r.segments refused)

    pub keeps-best : (terms : Terms) (r : Layout L) (size align : ℕ) (refused : Bool) → KeepsBest r.blocks (best_alloc terms r label size align refused)
    keeps-best terms r size align refused = keeps-placed terms r size align refused (place_in r size align)

    keeps-latest : (r : Layout L) (size : ℕ) (granted : Option Grant) (o : Option (ℕ × ℕ)) → KeepsBest r.blocks (put_behind_latest r label size granted o)
    keeps-latest r size granted None = tt
    keeps-latest r size granted (Some at) = keeps-behind size at r.blocks

    keeps-newest : (r : Layout L) (size : ℕ) (a : Asked) → KeepsBest r.blocks (put_in_newest r label size a)
    keeps-newest r size (Granted g) = keeps-latest (with_grant r g) size (Some g) (last_place (with_grant r g) size)
    keeps-newest r size TooMany = tt
    keeps-newest r size NotLent = tt

    keeps-lent : (terms : Terms) (r : Layout L) (size : ℕ) (refused : Bool) (o : Option (ℕ × ℕ)) → KeepsBest r.blocks (put_or_lend terms r label size refused o)
    keeps-lent terms r size refused (Some at) = keeps-behind size at r.blocks
    keeps-lent terms r size refused None = keeps-newest r size (ask terms (last_need terms size) r.segments refused)

    pub keeps-last : (terms : Terms) (r : Layout L) (size : ℕ) (refused : Bool) → KeepsBest r.blocks (last_alloc terms r label size refused)
    keeps-last terms r size refused = keeps-lent terms r size refused (last_place r size)

    keeps-cell : (p : Pool L) (size : ℕ) (a : Asked) → KeepsPool p.layout.blocks (put_asked p label size a)
    keeps-cell p size (Granted g) = keeps-with size (g.number, cell_offset (cell_for (element_with p size)) (carved_in g.number p.carved)) p.layout.blocks
    keeps-cell p size TooMany = tt
    keeps-cell p size NotLent = tt

    keeps-carved : (terms : Terms) (p : Pool L) (size : ℕ) (refused : Bool) (o : Option (ℕ × ℕ)) → KeepsPool p.layout.blocks (put_carving terms p label size refused o)
    keeps-carved terms p size refused (Some at) = keeps-with size at p.layout.blocks
    keeps-carved terms p size refused None = keeps-cell p size (ask terms (pool_need terms p size) p.layout.segments refused)

    keeps-free : (terms : Terms) (p : Pool L) (size : ℕ) (refused : Bool) (freed : List (ℕ × ℕ)) → KeepsPool p.layout.blocks (put_free terms p label size refused freed)
    keeps-free terms p size refused (at ∷ freed) = keeps-with size at p.layout.blocks
    keeps-free terms p size refused [] =
        keeps-carved terms p size refused (uncarved (cell_for (element_with p size)) p.carved p.layout.segments)

    pub keeps-pool : (terms : Terms) (p : Pool L) (size : ℕ) (refused : Bool) → KeepsPool p.layout.blocks (pool_alloc terms p label size refused)
    keeps-pool terms p size refused =
        either (KeepsPool p.layout.blocks) (nat_lt (element_with p size) size) (Refused PoolSize) (put_free terms p label size refused p.freed) tt
        (keeps-free terms p size refused p.freed)

  pub stays-kept : {R : Type 0} (of : R → List (Block L)) (bs : List (Block L)) (o : Outcome (Put R)) → KeepsBy of bs o → StaysBy of bs o
  stays-kept of bs (Done p) k = k.same
  stays-kept of bs (Refused why) k = tt

  module _ (b : Block L) (size : ℕ) where
    stays-moved : (bs : List (Block L)) (o : Outcome (Put (Layout L))) → AreMine mine weigh (b.seg, b.off) bs → KeepsBest bs o → StaysBest bs (outcome_of_move size b o)
    stays-moved bs (Done p) all k =
        let src = take size b.bytes in
        others-without mine weigh (b.seg, b.off) (change_block (rewritten_block 0 src) p.at p.region.blocks)
        (mine-written mine weigh (b.seg, b.off) p.at 0 src p.region.blocks (k.mine_at (b.seg, b.off) all))
        ∙ (others-written mine weigh p.at 0 src p.region.blocks ∙ k.same)
    stays-moved bs (Refused why) all k = tt

    stays-or : (r : Layout L) (stay move : Bool) (o : Outcome (Put (Layout L))) → AreMine mine weigh (b.seg, b.off) r.blocks → KeepsBest r.blocks o → StaysBest r.blocks (cond stay (stays r size b) (cond move (outcome_of_move size b o) (Refused Fixed)))
    stays-or r stay move o all k =
        either (StaysBest r.blocks) stay (stays r size b) (cond move (outcome_of_move size b o) (Refused Fixed))
        (others-sized mine weigh (b.seg, b.off) size r.blocks all)
        (either (StaysBest r.blocks) move (outcome_of_move size b o) (Refused Fixed) (stays-moved r.blocks o all k) tt)

  module _ (at : ℕ × ℕ) where
    at-own : (b : Block L) (bs : List (Block L)) → is_at at b ≡ true → AreMine mine weigh at bs → AreMine mine weigh (b.seg, b.off) bs
    at-own b bs here all = subst (λ p. AreMine mine weigh p bs) (sym (place-at at b here)) all

    stays-found : (terms : Terms) (r : Layout L) (size : ℕ) (may_move refused : Bool) (o : Option (Block L)) → find_block at r.blocks ≡ o → AreMine mine weigh at r.blocks → StaysBest r.blocks (resize_found terms r size may_move refused o)
    stays-found terms r size may_move refused None found all = tt
    stays-found terms r size may_move refused (Some b) found all =
        let own = mine-found mine weigh at r.blocks b all found in
        stays-or b size r (can_stay r size b) may_move (best_alloc terms r b.label size 32 refused) (at-own b r.blocks own.0 all)
        (keeps-best b.label own.1 terms r size 32 refused)

    -- the block at a place gets another size
    pub stays-resize : (terms : Terms) (r : Layout L) (size : ℕ) (may_move refused : Bool) → AreMine mine weigh at r.blocks → StaysBest r.blocks (best_resize terms r at size may_move refused)
    stays-resize terms r size may_move refused all = stays-found terms r size may_move refused (find_block at r.blocks) refl all

    pub stays-cell : (p : Pool L) (size : ℕ) → AreMine mine weigh at p.layout.blocks → StaysPool p.layout.blocks (pool_resize p at size)
    stays-cell p size all =
        either (StaysPool p.layout.blocks) (nat_lt (element_with p size) size) (Refused PoolSize) _ tt (others-sized mine weigh at size p.layout.blocks all)

    stays-latest : (terms : Terms) (r : Layout L) (size : ℕ) (may_move refused : Bool) (o : Option (Block L)) → ((b : Block L) → o ≡ Some b → is_at at b ≡ true → mine b.label ≡ true) → AreMine mine weigh at r.blocks → StaysBest r.blocks (if_latest at (resize_latest terms r size may_move refused) o)
    stays-latest terms r size may_move refused None own all = tt
    stays-latest terms r size may_move refused (Some b) own all =
        with-test (is_at at b) refl
      where
        with-test : (t : Bool) → is_at at b ≡ t → StaysBest r.blocks (cond t (resize_latest terms r size may_move refused b) (Refused NotLast))
        with-test true here =
            stays-or b size r (can_end r size b) may_move (last_alloc terms r b.label size refused) (at-own b r.blocks here all)
            (keeps-last b.label (own b refl here) terms r size refused)
        with-test false here = tt

    last-own : (bs : List (Block L)) (o : Option (Block L)) → AreMine mine weigh at bs → ((b : Block L) → o ≡ Some b → is_at at b ≡ true → mine b.label ≡ true) → (b : Block L) → last_or o bs ≡ Some b → is_at at b ≡ true → mine b.label ≡ true
    last-own [] o all own b e here = own b e here
    last-own (c ∷ cs) o all own b e here = last-own cs (Some c) all.1 (λ d same at_d. let is = same_Some c d same in ap (λ (k : Block L). mine k.label) (sym is) ∙ all.0 (ap (is_at at) is ∙ at_d)) b e here

    pub stays-last : (terms : Terms) (r : Layout L) (size : ℕ) (may_move refused : Bool) → AreMine mine weigh at r.blocks → StaysBest r.blocks (last_resize terms r at size may_move refused)
    stays-last terms r size may_move refused all = stays-latest terms r size may_move refused (latest r) (last-own r.blocks None all (λ b e here. absurd (none-some b e))) all
