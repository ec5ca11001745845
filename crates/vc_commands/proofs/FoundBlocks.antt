-- The block of a name, in a region with tags and in the one with names.
use Rattle.vc_base.proofs.Common.{◌≡◌, ℕ, suc, ◌≤◌, true, ◌||◌, List, [], ◌∷◌, map, is_some, ◌==◌, Some, None, Option, IfSome, Contains, option_map, find, bytes_eq, sym, refl, ap, ◌∙◌, ⊎_elim, arith, eqb-true, cases_Bool, false≢true, same_Some, list_any, place_of, Block, address_of, relabel_block, HasBlock, find_block}
use Rattle.vc_region.specs.Region.{Region, blocks_of, region_with_labels}
use Rattle.vc_model.specs.Place.{IsAlign}
use Rattle.vc_base.specs.declared.addr.Addr.{Addr}
use Rattle.vc_base.proofs.Texts.{same_bytes}
use Rattle.vc_region.specs.Cells.{rest_in}
use Rattle.vc_region.specs.Parts.{region_of}
use Rattle.vc_region.specs.declared.region.Region.{Region as Open}
use Rattle.vc_region.proofs.RestFound.{has-rest}
use Rattle.vc_model.proofs.Places.{Among, among-all, among-find, found-there, place-of}
use Rattle.vc_model.proofs.Relabel.{find-relabel}
use Rattle.vc_region.proofs.Relabel.{blocks-relabelled}
use Rattle.vc_commands.specs.Home as home
use Rattle.vc_commands.specs.Home.{Changed, Home, refusal_alone}
use Rattle.vc_commands.specs.Blocks.{is_align, is_block, is_name_of, no_block, on_block, with_named}
use Rattle.vc_commands.specs.FreedNames.{freed_line}
use Rattle.vc_commands.specs.declared.region.labels.Label.{Label}
use Rattle.vc_commands.specs.declared.region.labels.Labels.{Labels}
use Rattle.vc_commands.specs.Labels.{kept_of, label_at, name_of_tag, tag_of}
use Rattle.vc_commands.specs.Held.{HasName, Held, IsLive, AreLabelsOf, home_of}
use Rattle.vc_script.specs.declared.refusal.Refusal.{Refusal}
use Rattle.vc_script.specs.declared.reply.Reply.TheVariants.{Refused}
use Rattle.vc_commands.specs.RegionRun.{GivesRegion}
use Rattle.vc_commands.proofs.Answers.{gives-unchanged}
use Rattle.vc_commands.proofs.Firsts.{find-none}
use Rattle.vc_commands.proofs.Lists.{Passes, contains-among, found-any}
use Rattle.vc_commands.proofs.Names.{has-label-any, name-first, name-here, named_by}

-- no block has the name
pub on_block-none : (h : Held) (x : List ℕ) (act : Block home.Label → Changed) → AreLabelsOf h.region h.labels → tag_of h.labels x ≡ None → on_block (home_of h) x act ≡ refusal_alone (home_of h) (no_block (freed_line x (kept_of h.labels)))
on_block-none h x act names none =
    ap (λ o. with_named (home_of h) x o act) (find-none (is_block x) (blocks_of (home_of h).region) (sym (names.known x) ∙ ap is_some none))

pub gives-none : (h : Held) (x : List ℕ) (act : Home → Block home.Label → Changed) (why : Refusal) → AreLabelsOf h.region h.labels → tag_of h.labels x ≡ None → why ≡ no_block (freed_line x (kept_of h.labels)) → GivesRegion (on_block (home_of h) x (act (home_of h))) ((home_of h).region, (home_of h).kept) (Refused why)
gives-none h x act why names none is =
    gives-unchanged (home_of h) (on_block (home_of h) x (act (home_of h))) why (on_block-none h x (act (home_of h)) names none ∙ ap (refusal_alone (home_of h)) (sym is))

name-some : (x : List ℕ) (o : home.Label) → is_name_of x o ≡ true → (y : List ℕ) × (o ≡ Some y) × (bytes_eq y x ≡ true)
name-some x None e = absurd cc
name-some x (Some y) e = (y, refl, e)

-- the block of a name
pub record TheBlock (r : Region ℕ) (labels : Labels) (x : List ℕ) (tag a : ℕ) : Type 0 where
  pub block : Block ℕ
  pub first : 1 ≤ block.label
  pub is_tag : block.label ≡ tag
  pub name : name_of_tag labels block.label ≡ Some x
  pub address : address_of block ≡ a
  pub place : place_of a ≡ (block.seg, block.off)
  pub found : find_block (place_of a) (blocks_of r) ≡ Some block
  pub there : Contains (map address_of (blocks_of r)) a
  pub named : find (is_block x) (blocks_of (region_with_labels (name_of_tag labels) r)) ≡ Some (relabel_block (name_of_tag labels) block)

-- a name of a region's blocks, by its tag, whose label has an address
abbrev pub label_of : List ℕ → Addr → Label
label_of x addr = record { name = x; at = addr }

-- by what the labels tell of it
pub has-name : {r : Region ℕ} {labels : Labels} {x : List ℕ} {addr : Addr} → AreLabelsOf r labels → (tag : ℕ) × (tag_of labels x ≡ Some tag) × (label_at labels tag ≡ Some (label_of x addr)) → HasName r labels x addr
has-name names found = record { names = names; tag = found.0; named = found.1; there = found.2 }

module _ {r : Region ℕ} {labels : Labels} {x : List ℕ} {addr : Addr} (has : HasName r labels x addr) where
  passes : Passes (named_by (name_of_tag labels) x) (blocks_of r)
  passes = found-any (named_by (name_of_tag labels) x) (blocks_of r) (sym (has-label-any (name_of_tag labels) x r) ∙ (sym (has.names.known x) ∙ ap is_some has.named))

  pub the_block : TheBlock r labels x has.tag addr.0
  the_block =
      let f = name_of_tag labels in
      let b = passes.item in
      let among : Among b (blocks_of r) = among-find (named_by f x) (blocks_of r) b passes.found in
      let some = name-some x (f b.label) passes.passes in
      let first : 1 ≤ b.label = name-first labels b.label some.0 some.1 in
      let live : IsLive labels b = among-all (λ c. 1 ≤ c.label → IsLive labels c) b (blocks_of r) among has.names.live first in
      let own : live.label.name ≡ x = same_Some live.label.name some.0 (sym (name-here labels b.label live.label first live.here) ∙ some.1) ∙ same_bytes some.0 x some.2 in
      let is_tag : b.label ≡ has.tag = same_Some b.label has.tag (sym (has.names.agree.named b.label live.label first live.here) ∙ (ap (tag_of labels) own ∙ has.named)) in
      let same : live.label ≡ (label_of x addr) = same_Some live.label (label_of x addr) (sym live.here ∙ (ap (label_at labels) is_tag ∙ has.there)) in
      let address : address_of b ≡ addr.0 = sym live.at ∙ ap (λ (k : Label). k.at.0) same in
      record {
        block = b;
        first = first;
        is_tag = is_tag;
        name = some.1 ∙ ap (λ n. Some n) (same_bytes some.0 x some.2);
        address = address;
        place = ap place_of (sym address) ∙ place-of (blocks_of r) b has.names.places among;
        found = found-there (blocks_of r) b addr.0 has.names.places among address;
        there = contains-among addr.0 b (blocks_of r) among address;
        named =
            ap (find (is_block x)) (blocks-relabelled f r)
            ∙ (find-relabel f (named_by f x) (is_block x) (λ c. refl) (blocks_of r)
            ∙ ap (option_map (relabel_block f)) passes.found);
      }

-- it stands in a region of its tags at the address of the name
pub name-there : {I : Type 0} {V : I → Type 0} (r : Open I V) {labels : Labels} {x : List ℕ} {addr : Addr} → HasName (rest_in r) labels x addr → HasBlock (blocks_of (region_of r)) addr.0
name-there r {addr = addr} has = has-rest (region_of r) addr.0 (the_block has).there

-- so it is found with what the labels tell
pub if_some-map : {A : Type 0} {P Q : A → Type 0} (o : Option A) → ((x : A) → P x → Q x) → IfSome o P → IfSome o Q
if_some-map None f h = tt
if_some-map (Some x) f h = f x h

-- what is done with it
pub on_block-there : (h : Held) (x : List ℕ) (tag a : ℕ) (b : TheBlock h.region h.labels x tag a) (act : Block home.Label → Changed) → on_block (home_of h) x act ≡ act (relabel_block (name_of_tag h.labels) b.block)
on_block-there h x tag a b act = ap (λ o. with_named (home_of h) x o act) b.named

-- a script's alignment is one of a region
pub align-in : (align : ℕ) → is_align align ≡ true → IsAlign align
align-in align passes = among (32 ∷ 64 ∷ 128 ∷ 256 ∷ 512 ∷ 1024 ∷ 2048 ∷ 4096 ∷ []) passes
  where
    among : (xs : List ℕ) → list_any (λ n. align == n) xs ≡ true → Contains xs align
    among [] any = absurd (false≢true any)
    among (y ∷ ys) any =
        ⊎_elim
        (λ e. (0, omega arith, sym (eqb-true align y e)))
        (λ e.
        let rest = among ys (sym (ap (λ b. b || list_any (λ n. align == n) ys) e) ∙ any) in
        (suc rest.0, omega (arith, rest.1), rest.2))
        (cases_Bool (align == y))
