-- The block that is next, and what is told of it.
use Rattle.vc_base.proofs.Common.{◌≡◌, ℕ, List, ◌∷◌, map, Some, option_map, sym, ap, ◌∙◌, same_Some, place_of, Block, address_of, relabel_block, HaveOwnPlaces, find_block, next_block}
use Rattle.vc_model.proofs.Places.{among-above, found-there, place-of}
use Rattle.vc_script.specs.declared.place.Place.{Place}
use Rattle.vc_commands.specs.Home.{Label}
use Rattle.vc_commands.specs.Whole.{item_of}
use Rattle.vc_audit.proofs.DebugChecks.{above as blocks_above}
use Rattle.vc_commands.proofs.Listing.{FromSome, blocks-next, from_some}
use Rattle.vc_image_run.specs.Text.Text.{label_of}

abbrev pub item : Block ℕ → Label × Place × ℕ
item b = item_of (relabel_block label_of b)

-- the items of the blocks above an address
abbrev pub items_above : ℕ → List (Block ℕ) → List (Label × Place × ℕ)
items_above after bs = map item (blocks_above after bs)

pub record NextItem (bs : List (Block ℕ)) (after a : ℕ) (told : Label × Place × ℕ) : Type 0 where
  pub row : items_above after bs ≡ told ∷ items_above a bs

pub next-item :
    (bs : List (Block ℕ)) (after a tag size : ℕ) (name : Label) (place : Place) → HaveOwnPlaces bs → option_map address_of (next_block after bs) ≡ Some a
    → option_map (λ b. b.label) (find_block (place_of a) bs) ≡ Some tag → name ≡ label_of tag → place.seg ≡ (place_of a).0 → place.off ≡ (place_of a).1
    → option_map (λ b. b.size) (find_block (place_of a) bs) ≡ Some size → NextItem bs after a (name, place, size)
next-item bs after a tag size name place places next tagged named seg off sized =
    let f : FromSome address_of (next_block after bs) a = from_some address_of (next_block after bs) a next in
    let b = f.from in
    let among = among-above address_of after bs b f.was in
    let found : find_block (place_of a) bs ≡ Some b = found-there bs b a places among f.to in
    let at : place_of a ≡ (b.seg, b.off) = ap place_of (sym f.to) ∙ place-of bs b places among in
    let label : b.label ≡ tag = same_Some b.label tag (sym (ap (option_map (λ c. c.label)) found) ∙ tagged) in
    let bytes : b.size ≡ size = same_Some b.size size (sym (ap (option_map (λ c. c.size)) found) ∙ sized) in
    let by : Label → ℕ → ℕ → ℕ → Label × Place × ℕ = λ n s o k. (n, record { seg = s; off = o }, k) in
    let is : item b ≡ (name, place, size) =
    ap (λ n. by n b.seg b.off b.size) (ap label_of label ∙ sym named)
    ∙ (ap (λ s. by name s b.off b.size) (sym (seg ∙ ap (λ (p : ℕ × ℕ). p.0) at))
    ∙ (ap (λ o. by name place.seg o b.size) (sym (off ∙ ap (λ (p : ℕ × ℕ). p.1) at))
    ∙ ap (λ k. by name place.seg place.off k) bytes)) in
    record { row = ap (map item) (blocks-next after bs b a places f.was f.to) ∙ ap (λ i. i ∷ items_above a bs) is }
