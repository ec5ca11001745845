-- Writing keeps the label of the block at each place, by the method.
use Rattle.vc_base.proofs.Common.{◌≡◌, ℕ, ◌+◌, true, false, cond, List, [], ◌∷◌, map, ℤ, Some, Option, option_map, sym, refl, ap, ◌∙◌, Block, is_at, relabel_block, change_block, find_block, rewritten_block}
use Rattle.vc_audit.specs.Debug.{guarded_offset, guarded_place, user_block}
use Rattle.vc_region.specs.Region.{OfBest, OfPool, OfLast, OfDebug, OfProfile, Region, blocks_of, region_poke, region_watch, region_write}

abbrev pub label_at : ℕ × ℕ → List (Block ℕ) → Option ℕ
label_at to bs = option_map (λ b. b.label) (find_block to bs)

-- bytes are written into one of some blocks, of which only the places and the labels are looked at
module _ {A : Type 0} (seen : Block A → Block ℕ) (off : ℕ) (src : List ℕ) (at to : ℕ × ℕ) (place : (b : Block A) → is_at to (seen (rewritten_block off src b)) ≡ is_at to (seen b)) (label : (b : Block A) → (seen (rewritten_block off src b)).label ≡ (seen b).label) where
  same-first : (b : Block A) (bs : List (Block A)) → label_at to (map seen (rewritten_block off src b ∷ bs)) ≡ label_at to (map seen (b ∷ bs))
  same-first b bs =
      rw (place b) (elim (is_at to (seen b)) as (λ v. option_map (λ c. c.label) (cond v (Some (seen (rewritten_block off src b))) (find_block to (map seen bs))) ≡ option_map (λ c. c.label) (cond v (Some (seen b)) (find_block to (map seen bs))))
      [ true ↦ ap (λ l. Some l) (label b) | false ↦ refl ])

  pub label-seen : (bs : List (Block A)) → label_at to (map seen (change_block (rewritten_block off src) at bs)) ≡ label_at to (map seen bs)
  label-seen [] = refl
  label-seen (b ∷ bs) =
      elim (is_at at b) as (λ v. label_at to (map seen (cond v (rewritten_block off src b ∷ bs) (b ∷ change_block (rewritten_block off src) at bs))) ≡ label_at to (map seen (b ∷ bs))) [
        | true ↦ same-first b bs
        | false ↦ elim (is_at to (seen b)) as (λ v. option_map (λ c. c.label) (cond v (Some (seen b)) (find_block to (map seen (change_block (rewritten_block off src) at bs)))) ≡ option_map (λ c. c.label) (cond v (Some (seen b)) (find_block to (map seen bs))))
            [ true ↦ refl | false ↦ label-seen bs ]
      ]

as_it_is : Block ℕ → Block ℕ
as_it_is b = b

map-as_it_is : (bs : List (Block ℕ)) → map as_it_is bs ≡ bs
unfolding as_it_is
map-as_it_is [] = refl
map-as_it_is (b ∷ bs) = ap (λ cs. b ∷ cs) (map-as_it_is bs)

label-changed : (off : ℕ) (src : List ℕ) (at to : ℕ × ℕ) (bs : List (Block ℕ)) → label_at to (change_block (rewritten_block off src) at bs) ≡ label_at to bs
unfolding as_it_is
label-changed off src at to bs =
    ap (label_at to) (sym (map-as_it_is (change_block (rewritten_block off src) at bs)))
    ∙ (label-seen as_it_is off src at to (λ b. refl) (λ b. refl) bs ∙ ap (label_at to) (map-as_it_is bs))

pub write-labels : (r : Region ℕ) (at to : ℕ × ℕ) (off : ℕ) (src : List ℕ) → label_at to (blocks_of (region_write r at off src)) ≡ label_at to (blocks_of r)
write-labels (OfBest l) at to off src = label-changed off src at to l.blocks
write-labels (OfPool p) at to off src = label-changed off src at to p.layout.blocks
write-labels (OfLast l) at to off src = label-changed off src at to l.blocks
write-labels (OfDebug d) at to off src = label-seen user_block (32 + off) src (guarded_place at) to (λ b. refl) (λ b. refl) d.best.blocks
write-labels (OfProfile p) at to off src = label-seen (relabel_block (λ l. l.0)) off src at to (λ b. refl) (λ b. refl) p.layout.blocks

pub poke-labels : (r : Region ℕ) (at to : ℕ × ℕ) (off : ℤ) (byte : ℕ) → label_at to (blocks_of (region_poke r at off byte)) ≡ label_at to (blocks_of r)
poke-labels (OfDebug d) at to off byte = label-seen user_block (guarded_offset off) (byte ∷ []) (guarded_place at) to (λ b. refl) (λ b. refl) d.best.blocks
poke-labels r at to off byte = refl

-- a watch changes no block
pub watch-blocks : (r : Region ℕ) (at : ℕ × ℕ) (line : ℕ) → blocks_of (region_watch r at line) ≡ blocks_of r
watch-blocks (OfBest l) at line = refl
watch-blocks r at line = refl
