-- In an open region the block that has a name is the only one that has it, and the only one at its place.
use Rattle.vc_base.proofs.Common.{◌≡◌, Bool, ℕ, ◌+◌, ◌≤◌, true, false, cond, ◌≢◌, List, [], ◌∷◌, map, Some, None, Option, option_map, AllPairs, find, unwrap_or, sym, refl, ap, ◌∙◌, subst, inl, inr, ⊎_elim, arith, cases_Bool, All-map, same_Some, AllByRecursion, address, place_of, Discipline, Block, address_of, is_at, relabel_block, HaveOwnPlaces}
use Rattle.vc_seg.proofs.Lists.{AllPairs-map}
use Rattle.vc_commands.specs.Blocks.{is_block, is_name_of}
use Rattle.vc_commands.specs.Held.{Held, IsLive, AreLabelsOf, home_of}
use Rattle.vc_commands.specs.Home as home
use Rattle.vc_commands.specs.Home.{Home, is_home}
use Rattle.vc_commands.specs.Labels.{AreLabels, label_at, name_of_tag, tag_of}
use Rattle.vc_commands.specs.Sizes.{size_named}
use Rattle.vc_commands.specs.declared.region.labels.Label.{Label}
use Rattle.vc_commands.specs.declared.region.labels.Labels.{Labels}
use Rattle.vc_commands.proofs.Names.{name-first, name-here}
use Rattle.vc_model.proofs.Pairs.{AllPairs-head, AllPairs-tail, all-recursion}
use Rattle.vc_model.proofs.Places.{Among, among-all, among-find, found-there}
use Rattle.vc_base.proofs.Texts.{same_bytes}
use Rattle.vc_base.proofs.Lists.{find-passes}
use Rattle.vc_region.specs.Region.{blocks_of}
use Rattle.vc_region.proofs.Relabel.{blocks-relabelled}
use Rattle.vc_steps.specs.Account.{IsSession}
use Rattle.vc_steps.specs.Sizes.{AreNamed}
use Rattle.vc_steps.specs.State.{home_named}
use Rattle.vc_counts.proofs.CallOthers.{no_label, others_in, whole}
use Rattle.vc_counts.proofs.Others.{AreMine, others, place-at}

-- of the sizes of blocks, those that don't have a name, and that of the one that has it
pub record IsProper (h : Home) : Type 0 where
  pub split : (x : List ℕ) → others_in no_label h.region ≡ others_in (is_name_of x) h.region + size_named x h.region
  pub own : (x : List ℕ) (b : Block home.Label) → find (is_block x) (blocks_of h.region) ≡ Some b → AreMine (is_name_of x) whole (b.seg, b.off) (blocks_of h.region)

-- a size, where one is found
abbrev found : Option (Block home.Label) → ℕ
found o = unwrap_or (option_map (λ b. b.size) o) 0

module _ (labels : Labels) (agree : AreLabels labels) (x : List ℕ) where
  abbrev named : Block ℕ → Block home.Label
  named b = relabel_block (name_of_tag labels) b

  abbrev IsKnown : Block ℕ → Type 0
  IsKnown b = 1 ≤ b.label → IsLive labels b

  -- the tag of the name, and the block of the tag
  record HasTag (b : Block ℕ) : Type 0 where
    tag : tag_of labels x ≡ Some b.label
    live : IsLive labels b

  tag-by : (b : Block ℕ) → IsKnown b → (o : home.Label) → name_of_tag labels b.label ≡ o → is_name_of x o ≡ true → HasTag b
  tag-by b known None name is = absurd cc
  tag-by b known (Some y) name is =
      let first : 1 ≤ b.label = name-first labels b.label y name in
      let l = known first in
      let same : l.label.name ≡ x = same_Some l.label.name y (sym (name-here labels b.label l.label first l.here) ∙ name) ∙ same_bytes y x is in
      record { tag = ap (tag_of labels) (sym same) ∙ agree.named b.label l.label first l.here; live = l }

  has-tag : (b : Block ℕ) → IsKnown b → is_block x (named b) ≡ true → HasTag b
  has-tag b known is = tag-by b known (name_of_tag labels b.label) refl is

  -- blocks of the name stand at one address
  one-address : (b c : Block ℕ) → IsKnown b → IsKnown c → is_block x (named b) ≡ true → is_block x (named c) ≡ true → address_of b ≡ address_of c
  one-address b c known known' is is' =
      let t = has-tag b known is in
      let u = has-tag c known' is' in
      let tags : b.label ≡ c.label = same_Some b.label c.label (sym t.tag ∙ u.tag) in
      let same : t.live.label ≡ u.live.label = same_Some t.live.label u.live.label (sym t.live.here ∙ (ap (label_at labels) tags ∙ u.live.here)) in
      sym t.live.at ∙ (ap (λ (l : Label). l.at.0) same ∙ u.live.at)

  -- none of these has it
  abbrev NoneOf : List (Block ℕ) → Type 0
  NoneOf bs = AllByRecursion (λ b. is_block x (named b) ≡ false) bs

  split-none : (bs : List (Block ℕ)) → NoneOf bs → others no_label whole (map named bs) ≡ others (is_name_of x) whole (map named bs) + found (find (is_block x) (map named bs))
  split-none [] none = refl
  split-none (b ∷ bs) none =
      let rest = split-none bs none.1 in
      let here : cond (is_block x (named b)) 0 b.size ≡ b.size = ap (λ v. cond v 0 b.size) none.0 in
      let later : found (find (is_block x) (map named (b ∷ bs))) ≡ found (find (is_block x) (map named bs)) = ap (λ v. found (cond v (Some (named b)) (find (is_block x) (map named bs)))) none.0 in
      omega (arith, rest, here, later)

  found-none : (bs : List (Block ℕ)) → NoneOf bs → find (is_block x) (map named bs) ≡ None
  found-none [] none = refl
  found-none (b ∷ bs) none = ap (λ v. cond v (Some (named b)) (find (is_block x) (map named bs))) none.0 ∙ found-none bs none.1

  apart : (b : Block ℕ) (cs : List (Block ℕ)) → IsKnown b → AllByRecursion IsKnown cs → is_block x (named b) ≡ true → AllByRecursion (λ c. address_of b ≢ address_of c) cs → NoneOf cs
  apart b [] known all is away = tt
  apart b (c ∷ cs) known all is away =
      (⊎_elim (λ t. absurd (away.0 (one-address b c known all.0 is t))) (λ f. f) (cases_Bool (is_block x (named c))), apart b cs known all.1 is away.1)

  split-known : (bs : List (Block ℕ)) → AllByRecursion IsKnown bs → AllPairs (λ b c. address_of b ≢ address_of c) bs → others no_label whole (map named bs) ≡ others (is_name_of x) whole (map named bs) + found (find (is_block x) (map named bs))
  split-known [] known pairs = refl
  split-known (b ∷ bs) known pairs =
      let R : Block ℕ → Block ℕ → Type 0 = λ c d. address_of c ≢ address_of d in
      ⊎_elim
      (λ t.
      let none = apart b bs known.0 known.1 t (all-recursion (R b) bs (AllPairs-head R b bs pairs)) in
      let rest = split-none bs none in
      let gone : found (find (is_block x) (map named bs)) ≡ 0 = ap found (found-none bs none) in
      let here : cond (is_block x (named b)) 0 b.size ≡ 0 = ap (λ v. cond v 0 b.size) t in
      let first : found (find (is_block x) (map named (b ∷ bs))) ≡ b.size = ap (λ v. found (cond v (Some (named b)) (find (is_block x) (map named bs)))) t in
      omega (arith, rest, gone, here, first))
      (λ f.
      let rest = split-known bs known.1 (AllPairs-tail R b bs pairs) in
      let here : cond (is_block x (named b)) 0 b.size ≡ b.size = ap (λ v. cond v 0 b.size) f in
      let later : found (find (is_block x) (map named (b ∷ bs))) ≡ found (find (is_block x) (map named bs)) = ap (λ v. found (cond v (Some (named b)) (find (is_block x) (map named bs)))) f in
      omega (arith, rest, here, later))
      (cases_Bool (is_block x (named b)))

-- a block at the place of the one that has a name has it, too
module _ (all : List (Block home.Label)) (places : HaveOwnPlaces all) (x : List ℕ) (b : Block home.Label) (at : find (is_block x) all ≡ Some b) where
  same-there : (c : Block home.Label) → Among c all → is_at (b.seg, b.off) c ≡ true → is_block x c ≡ true
  same-there c m here =
      let address : address_of c ≡ address_of b = ap address (place-at (b.seg, b.off) c here) in
      let same : c ≡ b = same_Some c b (sym (found-there all c (address_of b) places m address) ∙ found-there all b (address_of b) places (among-find (is_block x) all b at) refl) in
      ap (is_block x) same ∙ find-passes (is_block x) all b at

  mine-within : (bs : List (Block home.Label)) → ((c : Block home.Label) → Among c bs → Among c all) → AreMine (is_name_of x) whole (b.seg, b.off) bs
  mine-within [] within = tt
  mine-within (c ∷ cs) within = (same-there c (within c (inl refl)), mine-within cs (λ d m. within d (inr m)))

  own-place : AreMine (is_name_of x) whole (b.seg, b.off) all
  own-place = mine-within all (λ c m. m)

named-places : (f : ℕ → home.Label) (bs : List (Block ℕ)) → HaveOwnPlaces bs → HaveOwnPlaces (map (relabel_block f) bs)
named-places f bs places =
    record {
      distinct = AllPairs-map (λ c d. address_of c ≢ address_of d) (relabel_block f) bs places.distinct;
      first = All-map (λ c. 1 ≤ c.seg) (relabel_block f) bs places.first;
      exact = All-map (λ c. place_of (address_of c) ≡ (c.seg, c.off)) (relabel_block f) bs places.exact;
    }

pub proper-held : (h : Held) → AreLabelsOf h.region h.labels → IsProper (home_of h)
proper-held h names =
    let f = name_of_tag h.labels in
    let blocks = blocks-relabelled f h.region in
    record {
      split = λ x.
          subst (λ bs. others no_label whole bs ≡ others (is_name_of x) whole bs + found (find (is_block x) bs)) (sym blocks)
          (split-known h.labels names.agree x (blocks_of h.region) names.live names.places.distinct);
      own = λ x b at.
          subst (AreMine (is_name_of x) whole (b.seg, b.off)) (sym blocks)
          (own-place (map (relabel_block f) (blocks_of h.region)) (named-places f (blocks_of h.region) names.places) x b (ap (find (is_block x)) (sym blocks) ∙ at));
    }

-- in a session
pub are-named : (armed : Bool) (slots : List (Option Discipline)) (held : List Held) → IsSession armed slots held → AreNamed held
are-named armed slots [] session = tt
are-named armed slots (h ∷ hs) session = (session.0.names, are-named armed slots hs session.2)

pub are-proper : (held : List Held) → AreNamed held → AllByRecursion IsProper (map home_of held)
are-proper [] named = tt
are-proper (h ∷ hs) named = (proper-held h named.0, are-proper hs named.1)

-- and of the region that has a name
pub proper-named : (r : List ℕ) (hs : List Home) (h : Home) → AllByRecursion IsProper hs → home_named r hs ≡ Some h → IsProper h
proper-named r hs h proper at = among-all IsProper h hs (among-find (is_home r) hs h at) proper
