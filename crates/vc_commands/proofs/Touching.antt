-- What is done with the bytes of the block of a name.
use Rattle.vc_base.proofs.Common.{◌≡◌, ℕ, ◌+◌, ◌<◌, ◌≤◌, true, false, cond, ◌&&◌, List, length, take, drop, IfSome, nat_le, Some, Option, option_map, sym, refl, ap, ◌∙◌, subst, arith, nat_tests, and_right, same_Some, address, place_of, Block, address_of, without_block, HaveOwnPlaces, find_block}
use Rattle.vc_base.specs.declared.addr.Addr.{Addr}
use Rattle.vc_region.specs.Region.{Region, blocks_of, region_write, region_with_labels, keeps_freed, watch_at}
use Rattle.vc_region.proofs.Keeps.{write-keeps}
use Rattle.vc_region.proofs.Relabel.{watch-relabelled, write-relabelled}
use Rattle.vc_script.specs.declared.refusal.Refusal.TheVariants as why
use Rattle.vc_script.specs.declared.reply.Reply.TheVariants.{Written, Hex, Size}
use Rattle.vc_commands.specs.Home as home
use Rattle.vc_commands.specs.Home.{Home, changed_to, reply_alone, refusal_alone}
use Rattle.vc_commands.specs.Held.{HasName, Held, AreLabelsOf, home_of}
use Rattle.vc_commands.specs.Blocks.{read_block_found, read_named, size_of_named, write_block_found, write_named}
use Rattle.vc_commands.specs.Labels.{MovesLabel, kept_of, name_of_tag}
use Rattle.vc_commands.specs.RegionRun.{GivesRegion}
use Rattle.vc_commands.proofs.FoundBlocks.{TheBlock, label_of, on_block-there, the_block}
use Rattle.vc_model.proofs.Owned.{address-place_of}
use Rattle.vc_region.proofs.Writing.{write-labels}
use Rattle.vc_commands.proofs.Listing.{from_some}
use Rattle.vc_commands.proofs.Resizing.{found-place}
use Rattle.vc_commands.proofs.Moving.{named-moved}

pub le-beyond : (a b : ℕ) → b < a → nat_le a b ≡ false
le-beyond a b over = grind (arith, nat_tests)

pub le-within : (a b : ℕ) → a ≤ b → nat_le a b ≡ true
le-within a b within = grind (arith, nat_tests)

pub range-within : (off len size : ℕ) → 1 ≤ len → len ≤ 4096 → off + len ≤ size → ((nat_le 1 len && nat_le len 4096) && nat_le (off + len) size) ≡ true
range-within off len size some few within =
    ap (λ b. (b && nat_le len 4096) && nat_le (off + len) size) (le-within 1 len some)
    ∙ (ap (λ b. b && nat_le (off + len) size) (le-within len 4096 few) ∙ le-within (off + len) size within)

pub range-none : (off len size : ℕ) → len ≡ 0 → ((nat_le 1 len && nat_le len 4096) && nat_le (off + len) size) ≡ false
range-none off len size none = ap (λ b. (b && nat_le len 4096) && nat_le (off + len) size) (le-beyond 1 len (omega (arith, none)))

pub range-many : (off len size : ℕ) → 4096 < len → ((nat_le 1 len && nat_le len 4096) && nat_le (off + len) size) ≡ false
range-many off len size many =
    ap (λ b. b && nat_le (off + len) size) (and_right (nat_le 1 len) (nat_le len 4096) (le-beyond len 4096 many))

pub range-beyond : (off len size : ℕ) → size < off + len → ((nat_le 1 len && nat_le len 4096) && nat_le (off + len) size) ≡ false
range-beyond off len size over = and_right (nat_le 1 len && nat_le len 4096) (nat_le (off + len) size) (le-beyond (off + len) size over)

module _ (h : Held) {x : List ℕ} {addr : Addr} (has : HasName h.region h.labels x addr) where
  abbrev pub b : TheBlock h.region h.labels x has.tag addr.0
  b = the_block has

  abbrev k : Home
  k = home_of h

  abbrev f : ℕ → home.Label
  f = name_of_tag h.labels

  -- the size that is told of the address is that of the block
  pub size-told : (size : ℕ) → option_map (λ c. c.size) (find_block (place_of addr.0) (blocks_of h.region)) ≡ Some size → b.block.size ≡ size
  size-told size is = same_Some b.block.size size (sym (ap (option_map (λ (c : Block ℕ). c.size)) b.found) ∙ is)

  -- so are its bytes
  pub bytes-told : (off len : ℕ) (bytes : List ℕ) → option_map (λ c. take len (drop off c.bytes)) (find_block (place_of addr.0) (blocks_of h.region)) ≡ Some bytes → take len (drop off b.block.bytes) ≡ bytes
  bytes-told off len bytes is = same_Some (take len (drop off b.block.bytes)) bytes (sym (ap (option_map (λ (c : Block ℕ). take len (drop off c.bytes))) b.found) ∙ is)

  pub range-told : (off len : ℕ) → off + len ≤ b.block.size → IfSome (find_block (place_of addr.0) (blocks_of h.region)) (λ c. off + len ≤ c.size)
  range-told off len within = subst (λ o. IfSome o (λ (c : Block ℕ). off + len ≤ c.size)) (sym b.found) within

  pub gives-size : (size : ℕ) → b.block.size ≡ size → GivesRegion (size_of_named (home_of h) x) ((home_of h).region, kept_of h.labels) (Size x size)
  gives-size size is =
      subst (λ c. GivesRegion c ((home_of h).region, kept_of h.labels) (Size x size)) (sym (on_block-there h x has.tag addr.0 b (λ c. reply_alone (home_of h) (Size x c.size))))
      (record { region_after = refl; kept_after = refl; replied = ap (λ n. Size x n) is })

  pub gives-read : (off len : ℕ) (bytes : List ℕ) → ((nat_le 1 len && nat_le len 4096) && nat_le (off + len) b.block.size) ≡ true → take len (drop off b.block.bytes) ≡ bytes → GivesRegion (read_named (home_of h) x off len) ((home_of h).region, kept_of h.labels) (Hex x bytes)
  gives-read off len bytes passes is =
      let eq : read_named k x off len ≡ reply_alone k (Hex x (take len (drop off b.block.bytes))) =
      on_block-there h x has.tag addr.0 b (read_block_found k x off len)
      ∙ ap (λ v. cond v (reply_alone k (Hex x (take len (drop off b.block.bytes)))) (refusal_alone k why.Range)) passes in
      subst (λ c. GivesRegion c (k.region, kept_of h.labels) (Hex x bytes)) (sym eq) (record { region_after = refl; kept_after = refl; replied = ap (λ n. Hex x n) is })

  pub read-range : (off len : ℕ) → ((nat_le 1 len && nat_le len 4096) && nat_le (off + len) b.block.size) ≡ false → read_named (home_of h) x off len ≡ refusal_alone (home_of h) why.Range
  read-range off len fails =
      on_block-there h x has.tag addr.0 b (read_block_found k x off len)
      ∙ ap (λ v. cond v (reply_alone k (Hex x (take len (drop off b.block.bytes)))) (refusal_alone k why.Range)) fails

  module _ (off : ℕ) (bytes : List ℕ) where
    pub write-range : nat_le (off + length bytes) b.block.size ≡ false → write_named (home_of h) x off bytes ≡ refusal_alone (home_of h) why.Range
    write-range fails =
        on_block-there h x has.tag addr.0 b (write_block_found k x off bytes)
        ∙ ap (λ v. cond v (changed_to k (region_write k.region (b.block.seg, b.block.off) off bytes) (Written x (length bytes) (watch_at k.region (b.block.seg, b.block.off)))) (refusal_alone k why.Range)) fails

    pub gives-written : (region : Region ℕ) → nat_le (off + length bytes) b.block.size ≡ true → region ≡ region_write h.region (place_of addr.0) off bytes → (watch : Option ℕ) → watch ≡ watch_at h.region (place_of addr.0) → GivesRegion (write_named (home_of h) x off bytes) (region_with_labels (name_of_tag h.labels) region, kept_of h.labels) (Written x (length bytes) watch)
    gives-written region passes is watch watched =
        let eq : write_named k x off bytes ≡ changed_to k (region_with_labels f region) (Written x (length bytes) watch) =
        on_block-there h x has.tag addr.0 b (write_block_found k x off bytes)
        ∙ (ap (λ v. cond v (changed_to k (region_write k.region (b.block.seg, b.block.off) off bytes) (Written x (length bytes) (watch_at k.region (b.block.seg, b.block.off)))) (refusal_alone k why.Range)) passes
        ∙ (ap (λ p. changed_to k (region_write k.region p off bytes) (Written x (length bytes) (watch_at k.region p))) (sym b.place)
        ∙ (ap (λ w. changed_to k (region_write k.region (place_of addr.0) off bytes) (Written x (length bytes) w)) (watch-relabelled f h.region (place_of addr.0) ∙ sym watched)
        ∙ ap (λ r. changed_to k r (Written x (length bytes) watch)) (write-relabelled f h.region (place_of addr.0) off bytes ∙ ap (region_with_labels f) (sym is))))) in
        subst (λ c. GivesRegion c (region_with_labels f region, kept_of h.labels) (Written x (length bytes) watch)) (sym eq) (record { region_after = refl; kept_after = refl; replied = refl })

    pub named-written : (region : Region ℕ) → region ≡ region_write h.region (place_of addr.0) off bytes → without_block (place_of addr.0) (blocks_of region) ≡ without_block (place_of addr.0) (blocks_of h.region) → HaveOwnPlaces (blocks_of region) → AreLabelsOf region h.labels
    named-written region is others places =
        let p = place_of addr.0 in
        let first : 1 ≤ has.tag = subst (λ t. 1 ≤ t) b.is_tag b.first in
        let still : MovesLabel h.labels h.labels has.tag (label_of x addr) = record { first = first; at = has.there; other_tags = λ other low differs. refl; names = λ y. refl; count = refl } in
        let told : option_map (λ (c : Block ℕ). c.label) (find_block p (blocks_of region)) ≡ Some b.block.label =
        ap (λ r. option_map (λ (c : Block ℕ). c.label) (find_block p (blocks_of r))) is
        ∙ (write-labels h.region p p off bytes ∙ ap (option_map (λ (c : Block ℕ). c.label)) b.found) in
        let found = from_some (λ (c : Block ℕ). c.label) (find_block p (blocks_of region)) b.block.label told in
        let place : p ≡ (found.from.seg, found.from.off) = found-place p found.from (blocks_of region) found.was in
        let address : addr.0 ≡ address_of found.from = sym (address-place_of addr.0) ∙ ap address place in
        named-moved h.labels h.region has.names x has.tag (label_of x addr) has.there b h.labels (label_of x addr) still refl region found.from found.was found.to address place others has.names.agree places
        (λ e. has.names.none (sym (ap keeps_freed is ∙ write-keeps h.region p off bytes) ∙ e))
