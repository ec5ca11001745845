-- The block at a place, and the lists of segments and of blocks.
use Rattle.vc_base.proofs.Common.{◌≡◌, ℕ, ◌-◌, ◌<◌, ◌≤◌, List, [], ◌∷◌, map, length, get_or, Some, None, filter, Option, option_map, find, sym, refl, ap, ◌∙◌, arith, none-some, same_Some, place_of, Block, address_of, relabel_block, HaveOwnNumbers, HaveOwnPlaces, find_block, block_at, by_address, holds_byte, next_block, next_segment}
use Rattle.vc_region.specs.Region.{Region, blocks_of, region_with_labels}
use Rattle.vc_model.specs.Walk.{by_number}
use Rattle.vc_audit.proofs.DebugChecks.{above as blocks_above}
use Rattle.vc_model.proofs.Pairs.{all-recursion}
use Rattle.vc_model.proofs.Places.{among-above, among-find, found-there, place-of}
use Rattle.vc_model.proofs.Relabel.{block_at-relabel, by_address-relabel}
use Rattle.vc_region.specs.Cells.{rest_in}
use Rattle.vc_region.specs.Parts.{region_of}
use Rattle.vc_region.specs.declared.region.Region.{Region as Open}
use Rattle.vc_region.proofs.Relabel.{blocks-relabelled}
use Rattle.vc_region.proofs.RestFound.{rest-next, rest-own}
use Rattle.vc_region.proofs.Sound.{own_places}
use Rattle.vc_model.proofs.Sorting as sorting
use Rattle.vc_base.proofs.Options.{option_map-None}
use Rattle.vc_script.specs.declared.place.Place.{Place}
use Rattle.vc_script.specs.declared.reply.Reply.TheVariants.{AddrIn, AddrNone}
use Rattle.vc_commands.specs.declared.region.labels.Labels.{Labels}
use Rattle.vc_commands.specs.Labels.{name_of_tag}
use Rattle.vc_commands.specs.Home.{Label}
use Rattle.vc_commands.specs.Whole.{addr_reply, item_of}

-- a map of an option that has a value
pub record FromSome {A B : Type 0} (f : A → B) (o : Option A) (y : B) : Type 0 where
  pub from : A
  pub was : o ≡ Some from
  pub to : f from ≡ y

pub from_some : {A B : Type 0} (f : A → B) (o : Option A) (y : B) → option_map f o ≡ Some y → FromSome f o y
from_some f None y e = absurd (none-some y e)
from_some f (Some x) y e = record { from = x; was = refl; to = same_Some (f x) y e }

-- where a block is, and the offset in it
abbrev pub told_at : Block ℕ × ℕ → ℕ × ℕ
told_at f = (address_of f.0, f.1)

-- no block holds a byte
pub addr-none : (r : Region ℕ) (labels : Labels) (at : ℕ × ℕ) → option_map told_at (block_at at (blocks_of r)) ≡ None → addr_reply (block_at at (blocks_of (region_with_labels (name_of_tag labels) r))) ≡ AddrNone
addr-none r labels at e =
    ap (λ bs. addr_reply (block_at at bs)) (blocks-relabelled (name_of_tag labels) r)
    ∙ (ap addr_reply (block_at-relabel (name_of_tag labels) at (blocks_of r))
    ∙ ap (λ (o : Option (Block ℕ × ℕ)). addr_reply (option_map {U = Block Label × ℕ} (λ g. (relabel_block (name_of_tag labels) g.0, g.1)) o)) (option_map-None told_at (block_at at (blocks_of r)) e))

-- one block does
pub addr-some :
    (r : Region ℕ) (labels : Labels) (at : ℕ × ℕ) (a off tag : ℕ) (name : Label) → HaveOwnPlaces (blocks_of r) → option_map told_at (block_at at (blocks_of r)) ≡ Some (a, off)
    → option_map (λ b. b.label) (find_block (place_of a) (blocks_of r)) ≡ Some tag → name ≡ name_of_tag labels tag → addr_reply (block_at at (blocks_of (region_with_labels (name_of_tag labels) r))) ≡ AddrIn name off
addr-some r labels at a off tag name places told tagged named =
    let f : FromSome told_at (block_at at (blocks_of r)) (a, off) = from_some told_at (block_at at (blocks_of r)) (a, off) told in
    let within : Block ℕ → Block ℕ × ℕ = λ b. (b, at.1 - b.off) in
    let g : FromSome within (find (holds_byte at) (blocks_of r)) f.from = from_some within (find (holds_byte at) (blocks_of r)) f.from f.was in
    let block : g.from ≡ f.from.0 = ap (λ (x : Block ℕ × ℕ). x.0) g.to in
    let here : address_of g.from ≡ a = ap address_of block ∙ ap (λ (x : ℕ × ℕ). x.0) f.to in
    let found : find_block (place_of a) (blocks_of r) ≡ Some g.from = found-there (blocks_of r) g.from a places (among-find (holds_byte at) (blocks_of r) g.from g.was) here in
    let is : g.from.label ≡ tag = same_Some g.from.label tag (sym (ap (option_map (λ b. b.label)) found) ∙ tagged) in
    ap (λ bs. addr_reply (block_at at bs)) (blocks-relabelled (name_of_tag labels) r)
    ∙ (ap addr_reply (block_at-relabel (name_of_tag labels) at (blocks_of r))
    ∙ (ap (λ (o : Option (Block ℕ × ℕ)). addr_reply (option_map {U = Block Label × ℕ} (λ q. (relabel_block (name_of_tag labels) q.0, q.1)) o)) f.was
    ∙ (ap (λ n. AddrIn n f.from.1) (ap (λ (b : Block ℕ). name_of_tag labels b.label) (sym block) ∙ (ap (name_of_tag labels) is ∙ sym named))
    ∙ ap (λ k. AddrIn name k) (ap (λ (x : ℕ × ℕ). x.1) f.to))))

-- segments by number
abbrev pub number : ℕ × ℕ → ℕ
number s = s.0

abbrev pub segments_above : ℕ → List (ℕ × ℕ) → List (ℕ × ℕ)
segments_above after ss = filter (sorting.is_above number after) (by_number ss)

pub segments-next : (after : ℕ) (ss : List (ℕ × ℕ)) (s : ℕ × ℕ) → HaveOwnNumbers ss → next_segment after ss ≡ Some s → segments_above after ss ≡ s ∷ segments_above s.0 ss
segments-next after ss s numbers e = sorting.next-above number after ss s (sorting.distinct-pairs number ss numbers.distinct) e

pub segments-end : (after : ℕ) (ss : List (ℕ × ℕ)) → HaveOwnNumbers ss → next_segment after ss ≡ None → segments_above after ss ≡ []
segments-end after ss numbers e = sorting.none-above number after ss (sorting.distinct-pairs number ss numbers.distinct) e

pub segments-all : (ss : List (ℕ × ℕ)) → HaveOwnNumbers ss → segments_above 0 ss ≡ by_number ss
segments-all ss numbers = sorting.all-passed number ss (all-recursion (λ s. 1 ≤ number s) ss numbers.first)

pub blocks-next : (after : ℕ) (bs : List (Block ℕ)) (b : Block ℕ) (a : ℕ) → HaveOwnPlaces bs → next_block after bs ≡ Some b → address_of b ≡ a → blocks_above after bs ≡ b ∷ blocks_above a bs
blocks-next after bs b a places e is =
    sorting.next-above address_of after bs b (sorting.distinct-pairs address_of bs places.distinct) e
    ∙ ap (λ k. b ∷ blocks_above k bs) is

pub blocks-end : (after : ℕ) (bs : List (Block ℕ)) → HaveOwnPlaces bs → next_block after bs ≡ None → blocks_above after bs ≡ []
blocks-end after bs places e = sorting.none-above address_of after bs (sorting.distinct-pairs address_of bs places.distinct) e

pub blocks-all : (bs : List (Block ℕ)) → HaveOwnPlaces bs → blocks_above 0 bs ≡ by_address bs
blocks-all bs places = sorting.all-passed address_of bs (all-recursion (λ b. 1 ≤ address_of b) bs (λ k d within. some (get_or bs k d) (places.first k d within)))
  where
    some : (b : Block ℕ) → 1 ≤ b.seg → 1 ≤ address_of b
    some b first = omega (arith, first)

-- by what is told of the next one
pub fewer-above : (bs : List (Block ℕ)) (after a : ℕ) → HaveOwnPlaces bs → option_map address_of (next_block after bs) ≡ Some a → length (blocks_above a bs) < length (blocks_above after bs)
fewer-above bs after a places next =
    let b = from_some address_of (next_block after bs) a next in
    let e = ap length (blocks-next after bs b.from a places b.was b.to) in
    omega (arith, e)

pub none-above : (bs : List (Block ℕ)) (after : ℕ) → HaveOwnPlaces bs → option_map address_of (next_block after bs) ≡ None → blocks_above after bs ≡ []
none-above bs after places next = blocks-end after bs places (option_map-None address_of (next_block after bs) next)

-- in an open region, but for the bytes in its cells
module _ {I : Type 0} {V : I → Type 0} (r : Open I V) where
  pub places_in : HaveOwnPlaces (blocks_of (rest_in r))
  places_in = rest-own (region_of r) (own_places r)

  pub next_in : (after : ℕ) (o : Option ℕ) → o ≡ option_map address_of (next_block after (blocks_of (region_of r))) → option_map address_of (next_block after (blocks_of (rest_in r))) ≡ o
  next_in after o is = rest-next (region_of r) address_of (λ b. refl) after ∙ sym is

-- the items of blocks under their names
abbrev pub items_of : Labels → List (Block ℕ) → List (Label × Place × ℕ)
items_of labels bs = map item_of (map (relabel_block (name_of_tag labels)) bs)

pub list-items : (r : Region ℕ) (labels : Labels) → map item_of (by_address (blocks_of (region_with_labels (name_of_tag labels) r))) ≡ items_of labels (by_address (blocks_of r))
list-items r labels =
    ap (λ bs. map item_of (by_address bs)) (blocks-relabelled (name_of_tag labels) r)
    ∙ ap (map item_of) (by_address-relabel (name_of_tag labels) (blocks_of r))

-- the block that is next, and what is told of it
pub record NextBlock (bs : List (Block ℕ)) (labels : Labels) (after a : ℕ) (item : Label × Place × ℕ) : Type 0 where
  pub it : Block ℕ
  pub row : blocks_above after bs ≡ it ∷ blocks_above a bs
  pub item_is : item_of (relabel_block (name_of_tag labels) it) ≡ item

pub next-told :
    (bs : List (Block ℕ)) (labels : Labels) (after a tag size : ℕ) (name : Label) (place : Place) → HaveOwnPlaces bs → option_map address_of (next_block after bs) ≡ Some a
    → option_map (λ b. b.label) (find_block (place_of a) bs) ≡ Some tag → name ≡ name_of_tag labels tag → place.seg ≡ (place_of a).0 → place.off ≡ (place_of a).1
    → option_map (λ b. b.size) (find_block (place_of a) bs) ≡ Some size → NextBlock bs labels after a (name, place, size)
next-told bs labels after a tag size name place places next tagged named seg off sized =
    let f : FromSome address_of (next_block after bs) a = from_some address_of (next_block after bs) a next in
    let b = f.from in
    let among = among-above address_of after bs b f.was in
    let found : find_block (place_of a) bs ≡ Some b = found-there bs b a places among f.to in
    let at : place_of a ≡ (b.seg, b.off) = ap place_of (sym f.to) ∙ place-of bs b places among in
    let label : b.label ≡ tag = same_Some b.label tag (sym (ap (option_map (λ c. c.label)) found) ∙ tagged) in
    let bytes : b.size ≡ size = same_Some b.size size (sym (ap (option_map (λ c. c.size)) found) ∙ sized) in
    let item : Label → ℕ → ℕ → ℕ → Label × Place × ℕ = λ n s o k. (n, record { seg = s; off = o }, k) in
    record {
      it = b;
      row = blocks-next after bs b a places f.was f.to;
      item_is =
          ap (λ n. item n b.seg b.off b.size) (ap (name_of_tag labels) label ∙ sym named)
          ∙ (ap (λ s. item name s b.off b.size) (sym (seg ∙ ap (λ (p : ℕ × ℕ). p.0) at))
          ∙ (ap (λ o. item name place.seg o b.size) (sym (off ∙ ap (λ (p : ℕ × ℕ). p.1) at))
          ∙ ap (λ k. item name place.seg place.off k) bytes));
    }
