-- What allocating a block under a name answers, and how it changes the region.
use Rattle.vc_base.proofs.Common.{◌≡◌, ℕ, ◌+◌, ◌≤◌, Bool, true, false, cond, ◌&&◌, ◌||◌, ◌≢◌, List, [], ◌∷◌, length, is_some, IfSome, IfOk, OnErr, nat_lt, nat_le, ◌==◌, Some, None, Ok, Err, Option, Result, sym, refl, ap, ◌∙◌, subst, arith, eq-eqb, nat_tests, and_parts, none-some, AllByRecursion, Blocks, address, place_of, zeros, Discipline, HasOut, Unserved, Block, without_block, Done, Outcome, Put, Refused, outcome_as, HaveOwnPlaces, find_block}
use Rattle.vc_base.specs.declared.addr.Addr.{Addr}
use Rattle.vc_base.proofs.Options.{none_of}
use Rattle.vc_region.specs.Region.{Region, aligns, blocks_of, keeps_freed, region_align, region_alloc, region_with_labels, segments_of}
use Rattle.vc_region.proofs.Relabel.{align-relabelled, aligns-relabelled, alloc-relabelled, relabelled-alike}
use Rattle.vc_seg.specs.Answer.{Answers, Asks, IsPut}
use Rattle.vc_seg.specs.declared.fault.RegionFault.{RegionFault}
use Rattle.vc_script.specs.Needs.{need_shown}
use Rattle.vc_script.specs.declared.refusal.Refusal.{Refusal}
use Rattle.vc_script.specs.declared.refusal.Refusal.TheVariants as why
use Rattle.vc_script.specs.declared.reply.Reply.{Reply}
use Rattle.vc_script.specs.declared.reply.Reply.TheVariants as reply
use Rattle.vc_commands.specs.Home as home
use Rattle.vc_commands.specs.Home.{Changed, Home, refusal_alone}
use Rattle.vc_commands.specs.Held.{Held, IsChange, IsLive, AreLabelsOf, home_of}
use Rattle.vc_commands.specs.Blocks.{at_place, has_label, has_label_room, label_count, label_limit, align_refused, is_align, is_size, put_unless_refused, put_in, put_new, size_refused}
use Rattle.vc_commands.specs.FreedNames.{FreedNames, freed_line, without_name}
use Rattle.vc_commands.specs.Labels.{AreLabels, SameLabels, WithLabel, kept_of, label_at, name_of_tag, tag_of}
use Rattle.vc_commands.specs.Naming.{NamesPut, new_refused, new_refused_by}
use Rattle.vc_commands.specs.RegionRun.{GivesRegion}
use Rattle.vc_commands.specs.RegionCommands.{is_for_block}
use Rattle.vc_commands.specs.declared.region.labels.Label.{Label}
use Rattle.vc_commands.specs.declared.region.labels.Labels.{Labels}
use Rattle.vc_commands.proofs.Answers.{IsAn, NotNoSegment, Told, asks-kept, asks-out, asks-unserved, both-same, changed-by, fault-no_segment, fault-told, get_ok}
use Rattle.vc_commands.proofs.Moving.{name-new, named-put, region-more}
use Rattle.vc_commands.proofs.Names.{labels_of-same, label-count, relabelled-same}

-- why a block is not put, by the refusal of its words and whether there is room
abbrev pub words_or : Option Refusal → Bool → Option Refusal
words_or (Some refusal) few = Some refusal
words_or None few = cond few None (Some why.TooManyBlocks)

abbrev pub put_unless : Home → List ℕ → Option Refusal → Outcome (Put (Region home.Label)) → Changed
put_unless h x (Some why) outcome = refusal_alone h why
put_unless h x None outcome = put_in h x (without_name x h.kept) None outcome

unless : (h : Home) (x : List ℕ) (outcome : Outcome (Put (Region home.Label))) (words : Option Refusal) (named few : Bool) → has_label_room h x ≡ few → cond named (refusal_alone h why.BlockExists) (put_unless_refused h x words outcome) ≡ put_unless h x (cond named (Some why.BlockExists) (words_or words few)) outcome
unless h x outcome words true few is = refl
unless h x outcome (Some refusal) false few is = refl
unless h x outcome None false true is = ap (λ b. cond b (put_in h x (without_name x h.kept) None outcome) (refusal_alone h why.TooManyBlocks)) is
unless h x outcome None false false is = ap (λ b. cond b (put_in h x (without_name x h.kept) None outcome) (refusal_alone h why.TooManyBlocks)) is

refused-by : (labels : Labels) (x : List ℕ) (words : Option Refusal) → new_refused_by labels x words ≡ words_or words (is_some (freed_line x (kept_of labels)) || nat_lt (length labels.tags.entries) label_limit)
refused-by labels x None = refl
refused-by labels x (Some refusal) = refl

-- the names tell whether a new block is refused before a place is looked for
pub put_new-by : (h : Held) (x : List ℕ) (words : Option Refusal) (outcome : Outcome (Put (Region home.Label))) → AreLabelsOf h.region h.labels → put_new (home_of h) x words outcome ≡ put_unless (home_of h) x (new_refused h.labels x words) outcome
put_new-by h x words outcome names =
    let k = home_of h in
    let kept = is_some (freed_line x (kept_of h.labels)) in
    let few = kept || nat_lt (length h.labels.tags.entries) label_limit in
    let many : label_count k.region + length (kept_of h.labels) ≡ length h.labels.tags.entries =
    ap (λ n. n + length (kept_of h.labels)) (label-count h.region h.labels names ∙ names.count) ∙ sym names.agree.all in
    unless k x outcome words (has_label x k.region) few (ap (λ n. kept || nat_lt n label_limit) many)
    ∙ (ap (λ b. put_unless k x (cond b (Some why.BlockExists) (words_or words few)) outcome) (sym (names.known x))
    ∙ ap (λ o. put_unless k x (cond (is_some (tag_of h.labels x)) (Some why.BlockExists) o) outcome) (sym (refused-by h.labels x words)))

pub put_new-refused : (h : Held) (x : List ℕ) (legal : Option Refusal) (outcome : Outcome (Put (Region home.Label))) (refusal : Refusal) → AreLabelsOf h.region h.labels → new_refused h.labels x legal ≡ Some refusal → put_new (home_of h) x legal outcome ≡ refusal_alone (home_of h) refusal
put_new-refused h x legal outcome refusal names is = put_new-by h x legal outcome names ∙ ap (λ o. put_unless (home_of h) x o outcome) is

pub put_new-none : (h : Held) (x : List ℕ) (legal : Option Refusal) (outcome : Outcome (Put (Region home.Label))) → AreLabelsOf h.region h.labels → new_refused h.labels x legal ≡ None → put_new (home_of h) x legal outcome ≡ put_in (home_of h) x (without_name x (kept_of h.labels)) None outcome
put_new-none h x legal outcome names is = put_new-by h x legal outcome names ∙ ap (λ o. put_unless (home_of h) x o outcome) is

unless-new : (named : Bool) (o : Option Refusal) → cond named (Some why.BlockExists) o ≡ None → named ≡ false
unless-new true o e = absurd (none-some why.BlockExists (sym e))
unless-new false o e = refl

-- a block that isn't refused has a new name
pub new-name : (labels : Labels) (x : List ℕ) (legal : Option Refusal) → new_refused labels x legal ≡ None → tag_of labels x ≡ None
new-name labels x legal is = none_of (tag_of labels x) (unless-new (is_some (tag_of labels x)) (new_refused_by labels x legal) is)

pub gives-put : (h : Home) (x : List ℕ) (kept : FreedNames) (watch : Option ℕ) (f : ℕ → home.Label) (o : Outcome (Put (Region ℕ))) (a : ℕ) (r' : Region ℕ) → IsPut o a r' → GivesRegion (put_in h x kept watch (outcome_as (region_with_labels f) o)) (region_with_labels f r', kept) (at_place x (place_of a) watch)
gives-put h x kept watch f (Done p) a r' is = record { region_after = ap (region_with_labels f) (sym is.2); kept_after = refl; replied = ap (λ q. at_place x q watch) is.1 }
gives-put h x kept watch f (Refused why) a r' is = absurd is

pub put-address : (o : Outcome (Put (Region ℕ))) (a : ℕ) (r' : Region ℕ) → IsPut o a r' → a ≡ address (place_of a)
put-address (Done p) a r' is = is.0 ∙ ap address is.1
put-address (Refused why) a r' is = absurd is

-- names with one more, of this tag
abbrev name_with : Labels → ℕ → List ℕ → ℕ → home.Label
name_with labels tag x t = cond (t == tag) (Some x) (name_of_tag labels t)

-- a block that is put under a name: the labels with room for one more, its tag, and the call, that of the tags and that of the names
pub record Putting (h : Held) (x : List ℕ) (legal : Option Refusal) : Type 0 where
  pub names : AreLabelsOf h.region h.labels
  pub allowed : new_refused h.labels x legal ≡ None
  pub mid : Labels
  pub same : SameLabels h.labels mid
  pub agree : AreLabels mid
  pub tag : ℕ
  pub first : 1 ≤ tag
  pub vacant : label_at mid tag ≡ None
  pub call : Bool → Outcome (Put (Region ℕ))
  pub called : Bool → Outcome (Put (Region home.Label))
  pub commutes : (f : ℕ → home.Label) → f tag ≡ Some x → region_with_labels f h.region ≡ (home_of h).region → (refused : Bool) → called refused ≡ outcome_as (region_with_labels f) (call refused)
  pub stays : (a : ℕ) (r' : Region ℕ) → IsPut (call false) a r' → keeps_freed r' ≡ keeps_freed h.region

-- the region and the labels after the call
module _ (h : Held) (x : List ℕ) (legal : Option Refusal) (p : Putting h x legal) (region : Region ℕ) (new : Labels) where
  mid-names : AreLabelsOf h.region p.mid
  mid-names = labels_of-same h.region h.labels p.mid p.same p.agree p.names

  with-new : name_with p.mid p.tag x p.tag ≡ Some x
  with-new = ap (λ b. cond b (Some x) (name_of_tag p.mid p.tag)) (eq-eqb p.tag p.tag refl)

  with-other : (t : ℕ) → t ≢ p.tag → name_with p.mid p.tag x t ≡ name_of_tag p.mid t
  with-other t other =
      let differs : (t == p.tag) ≡ false = grind (arith, nat_tests, other) in
      ap (λ b. cond b (Some x) (name_of_tag p.mid t)) differs

  -- no block has the tag, so that any name may be its name
  with-old : region_with_labels (name_with p.mid p.tag x) h.region ≡ (home_of h).region
  with-old =
      relabelled-alike (name_with p.mid p.tag x) (name_of_tag p.mid) h.region (go (blocks_of h.region) mid-names.live)
      ∙ relabelled-same h.labels p.mid h.region p.same
    where
      go : (bs : List (Block ℕ)) → AllByRecursion (λ b. 1 ≤ b.label → IsLive p.mid b) bs → AllByRecursion (λ b. name_with p.mid p.tag x b.label ≡ name_of_tag p.mid b.label) bs
      go [] all = tt
      go (b ∷ bs) all = (
        with-other b.label (λ e.
            let l = all.0 (subst (λ t. 1 ≤ t) (sym e) p.first) in
            none-some l.label (sym p.vacant ∙ (ap (label_at p.mid) (sym e) ∙ l.here))),
        go bs all.1,
      )

  -- a fault leaves the region and its names
  back : new ≡ p.mid → region ≡ h.region → region_with_labels (name_of_tag new) region ≡ (home_of h).region
  back labels_same region_same =
      ap (λ l. region_with_labels (name_of_tag l) region) labels_same
      ∙ (ap (region_with_labels (name_of_tag p.mid)) region_same ∙ relabelled-same h.labels p.mid h.region p.same)

  taken : kept_of new ≡ without_name x (kept_of p.mid) → kept_of new ≡ without_name x (kept_of h.labels)
  taken e = e ∙ ap (without_name x) p.same.kept

  gives-new : (a : Addr) → WithLabel p.mid new p.tag (record { name = x; at = a }) → kept_of new ≡ without_name x (kept_of p.mid) → IsPut (p.call false) a.0 region → GivesRegion (put_new (home_of h) x legal (p.called false)) (region_with_labels (name_of_tag new) region, kept_of new) (at_place x (place_of a.0) None)
  gives-new a w keeps is =
      let k = home_of h in
      let label : Label = record { name = x; at = a } in
      let f = name_of_tag new in
      let old : region_with_labels f h.region ≡ k.region = region-more p.mid new p.tag label w p.vacant h.region mid-names ∙ relabelled-same h.labels p.mid h.region p.same in
      let kept = without_name x (kept_of h.labels) in
      let eq : put_new k x legal (p.called false) ≡ put_in k x kept None (outcome_as (region_with_labels f) (p.call false)) =
      put_new-none h x legal (p.called false) p.names p.allowed ∙ ap (put_in k x kept None) (p.commutes f (name-new p.mid new p.tag label w p.vacant) old false) in
      subst (λ c. GivesRegion c (region_with_labels f region, kept_of new) (at_place x (place_of a.0) None)) (sym eq)
      (subst (λ q. GivesRegion (put_in k x kept None (outcome_as (region_with_labels f) (p.call false))) (region_with_labels f region, q) (at_place x (place_of a.0) None)) (sym (taken keeps))
      (gives-put k x kept None f (p.call false) a.0 region is))

  gives-refused : (told : Reply) → Told p.call told → new ≡ p.mid → region ≡ h.region → GivesRegion (put_new (home_of h) x legal (p.called (is_for_block (need_shown told)))) (region_with_labels (name_of_tag new) region, kept_of new) told
  gives-refused told t labels_same region_same =
      let k = home_of h in
      let u = is_for_block (need_shown told) in
      let f = name_with p.mid p.tag x in
      let eq : put_new k x legal (p.called u) ≡ put_in k x (without_name x (kept_of h.labels)) None (outcome_as (region_with_labels f) (Refused t.fault)) =
      put_new-none h x legal (p.called u) p.names p.allowed ∙ ap (put_in k x (without_name x (kept_of h.labels)) None) (p.commutes f with-new with-old u ∙ ap (outcome_as (region_with_labels f)) t.refused) in
      subst (λ c. GivesRegion c (region_with_labels (name_of_tag new) region, kept_of new) told) (sym eq) (record { region_after = sym (back labels_same region_same); kept_after = sym (ap kept_of labels_same ∙ p.same.kept); replied = t.is })

  -- the reply is that of the definitions
  pub step-put : {E : Type 0} (put : Result Addr RegionFault) (result : Result Reply E) → NamesPut p.tag x put p.mid new result → Answers p.call put h.region region → IfOk result (λ told. GivesRegion (put_new (home_of h) x legal (p.called (is_for_block (need_shown told)))) (region_with_labels (name_of_tag new) region, kept_of new) told)
  step-put (Ok a) (Ok told) named answers =
      let is : told ≡ at_place x (place_of a.0) None = ap (get_ok told) named.0 in
      subst (λ t. GivesRegion (put_new (home_of h) x legal (p.called (is_for_block (need_shown t)))) (region_with_labels (name_of_tag new) region, kept_of new) t) (sym is) (gives-new a named.1 named.3 answers)
  step-put (Err fault) (Ok told) named answers = gives-refused told (fault-told p.call fault told named.0 answers.0) named.1 answers.1
  step-put put (Err e) named answers = tt

  -- with no memory the region stays
  pub err-put : {E : Type 0} (put : Result Addr RegionFault) (result : Result Reply E) → NamesPut p.tag x put p.mid new result → Answers p.call put h.region region → OnErr result ((let p : Region home.Label × FreedNames = (region_with_labels (name_of_tag new) region, kept_of new) in p) ≡ ((home_of h).region, (home_of h).kept))
  err-put (Ok a) (Err e) named answers = absurd (subst IsAn (sym named.0) tt)
  err-put (Err fault) (Err e) named answers = both-same (region_with_labels (name_of_tag new) region) (home_of h).region (kept_of new) (home_of h).kept (back named.1 answers.1) (ap kept_of named.1 ∙ p.same.kept)
  err-put put (Ok told) named answers = tt

  module _ (disc : Discipline) (need size : ℕ) where
    names-put : {E : Type 0} (put : Result Addr RegionFault) (result : Result Reply E) → NamesPut p.tag x put p.mid new result → Answers p.call put h.region region → IfOk put (λ a. find_block (place_of a.0) (blocks_of region) ≡ Some (zeros p.tag size (place_of a.0))) → IfOk put (λ a. without_block (place_of a.0) (blocks_of region) ≡ blocks_of h.region) → HaveOwnPlaces (blocks_of region) → AreLabelsOf region new
    names-put (Ok a) result named answers there others places =
        named-put p.mid new p.tag (record { name = x; at = a }) named.1 p.vacant h.region region size there others (put-address (p.call false) a.0 region answers) named.2 places (λ e. taken named.3 ∙ ap (without_name x) (p.names.none (sym (p.stays a.0 region answers) ∙ e))) mid-names
    names-put (Err fault) result named answers there others places =
        subst (λ l. AreLabelsOf region l) (sym named.1) (subst (λ r. AreLabelsOf r p.mid) (sym answers.1) mid-names)

    pub change-put : {E : Type 0} (put : Result Addr RegionFault) (result : Result Reply E) → NamesPut p.tag x put p.mid new result → Answers p.call put h.region region → Asks put h.disc disc (segments_of h.region) (segments_of region) need → IfOk put (λ a. find_block (place_of a.0) (blocks_of region) ≡ Some (zeros p.tag size (place_of a.0))) → IfOk put (λ a. without_block (place_of a.0) (blocks_of region) ≡ blocks_of h.region) → HaveOwnPlaces (blocks_of region) → HasOut h.disc (segments_of h.region) → (cells : Blocks) → cells ≡ h.cells → IsChange h (record { name = h.name; place = h.place; disc = disc; region = region; cells = cells; labels = new })
    change-put put result named answers asks there others places has cells same_cells =
        changed-by h disc region cells new same_cells has
        (asks-kept put h.disc disc (segments_of h.region) (segments_of region) need asks)
        (asks-out p.call h.region region h.disc disc need put answers asks)
        (names-put put result named answers there others places)

    pub unserved-put : {E : Type 0} (put : Result Addr RegionFault) (result : Result Reply E) → NamesPut p.tag x put p.mid new result → Asks put h.disc disc (segments_of h.region) (segments_of region) need → result ≡ Ok (reply.Refused why.NoSegment) → Unserved h.disc disc need
    unserved-put (Ok a) result named asks is =
        absurd (subst NotNoSegment (ap (get_ok (at_place x (place_of a.0) None)) (sym named.0 ∙ is)) tt)
    unserved-put (Err fault) (Ok told) named asks is =
        asks-unserved fault h.disc disc (segments_of h.region) (segments_of region) need (fault-no_segment fault told named.0 (ap (get_ok told) is)) asks
    unserved-put (Err fault) (Err e) named asks is = absurd (subst IsAn (sym is) tt)

-- the calls that put a block are those of the names
pub alloc-commutes : (h : Held) (x : List ℕ) (tag : ℕ) (site : List ℕ) (size : ℕ) (f : ℕ → home.Label) → f tag ≡ Some x → region_with_labels f h.region ≡ (home_of h).region → (u : Bool) → region_alloc h.disc.terms (home_of h).region (Some x) site size u ≡ outcome_as (region_with_labels f) (region_alloc h.disc.terms h.region tag site size u)
alloc-commutes h x tag site size f new same u =
    ap (λ r. region_alloc h.disc.terms r (Some x) site size u) (sym same)
    ∙ (ap (λ l. region_alloc h.disc.terms (region_with_labels f h.region) l site size u) (sym new) ∙ alloc-relabelled f h.disc.terms h.region tag site size u)

pub align-commutes : (h : Held) (x : List ℕ) (tag : ℕ) (site : List ℕ) (size align : ℕ) (f : ℕ → home.Label) → f tag ≡ Some x → region_with_labels f h.region ≡ (home_of h).region → (u : Bool) → region_align h.disc.terms (home_of h).region (Some x) site size align u ≡ outcome_as (region_with_labels f) (region_align h.disc.terms h.region tag site size align u)
align-commutes h x tag site size align f new same u =
    ap (λ r. region_align h.disc.terms r (Some x) site size align u) (sym same)
    ∙ (ap (λ l. region_align h.disc.terms (region_with_labels f h.region) l site size align u) (sym new) ∙ align-relabelled f h.disc.terms h.region tag site size align u)

unless-words : (named : Bool) (labels : Labels) (x : List ℕ) (words : Option Refusal) → cond named (Some why.BlockExists) (new_refused_by labels x words) ≡ None → words ≡ None
unless-words true labels x words e = absurd (none-some why.BlockExists (sym e))
unless-words false labels x None e = refl
unless-words false labels x (Some refusal) e = absurd (none-some refusal (sym e))

-- nor are its words refused
pub new-words : (labels : Labels) (x : List ℕ) (words : Option Refusal) → new_refused labels x words ≡ None → words ≡ None
new-words labels x words is = unless-words (is_some (tag_of labels x)) labels x words is

size-cond : (legal : Bool) → (let o : Option Refusal = cond legal None (Some why.Size) in o) ≡ None → legal ≡ true
size-cond true e = refl
size-cond false e = absurd (none-some why.Size (sym e))

-- a size that isn't refused
pub size-legal : (size : ℕ) → size_refused size ≡ None → is_size size ≡ true
size-legal size e = size-cond (is_size size) e

align-cond : (aligned legal : Bool) → (let o : Option Refusal = cond aligned (cond legal None (Some why.Size)) (Some why.WrongMethod) in o) ≡ None → legal ≡ true
align-cond true legal e = size-cond legal e
align-cond false legal e = absurd (none-some why.WrongMethod (sym e))

pub align-legal : (r : Region ℕ) (size align : ℕ) → align_refused r size align ≡ None → (is_size size && is_align align) ≡ true
align-legal r size align e = align-cond (aligns r) (is_size size && is_align align) e

-- the refusal of the words says nothing of labels
pub align-words : (h : Held) (size align : ℕ) → align_refused (home_of h).region size align ≡ align_refused h.region size align
align-words h size align = ap (λ b. cond b (cond (is_size size && is_align align) None (Some why.Size)) (Some why.WrongMethod)) (aligns-relabelled (name_of_tag h.labels) h.region)

-- a size of a script is one of a region
pub size-range : (size : ℕ) → is_size size ≡ true → (1 ≤ size) × (size ≤ 16777216)
size-range size e =
    let parts = and_parts (nat_le 1 size) (nat_le size 16777216) e in
    (le-told 1 size parts.0, le-told size 16777216 parts.1)
  where
    le-told : (a b : ℕ) → nat_le a b ≡ true → a ≤ b
    le-told a b e = grind (arith, nat_tests, e)

abbrev pub IsOther : Refusal → Type 0
IsOther why.NoSegment = ⊥
IsOther w = Unit {0}

all-other : (named few : Bool) (words : Option Refusal) → IfSome words IsOther → IfSome (let o : Option Refusal = cond named (Some why.BlockExists) (words_or words few) in o) IsOther
all-other true few words other = tt
all-other false few (Some w) other = other
all-other false true None other = tt
all-other false false None other = tt

-- the words of a new block are refused for its size or its region's method
pub size-other : (size : ℕ) → IfSome (size_refused size) IsOther
size-other size = by (is_size size)
  where
    by : (legal : Bool) → IfSome (let o : Option Refusal = cond legal None (Some why.Size) in o) IsOther
    by true = tt
    by false = tt

pub align-other : {L : Type 0} (r : Region L) (size align : ℕ) → IfSome (align_refused r size align) IsOther
align-other r size align = by (aligns r) (is_size size && is_align align)
  where
    by : (aligned legal : Bool) → IfSome (let o : Option Refusal = cond aligned (cond legal None (Some why.Size)) (Some why.WrongMethod) in o) IsOther
    by false legal = tt
    by true true = tt
    by true false = tt

-- no new block is refused as for want of a segment before a place is looked for
pub refused-other : (labels : Labels) (x : List ℕ) (words : Option Refusal) (w : Refusal) → IfSome words IsOther → new_refused labels x words ≡ Some w → w ≡ why.NoSegment → ⊥
refused-other labels x words w other is wanted =
    let few = is_some (freed_line x (kept_of labels)) || nat_lt (length labels.tags.entries) label_limit in
    let named = is_some (tag_of labels x) in
    let same : cond named (Some why.BlockExists) (words_or words few) ≡ Some w = ap (λ o. cond named (Some why.BlockExists) o) (sym (refused-by labels x words)) ∙ is in
    subst IsOther wanted (subst (λ o. IfSome o IsOther) same (all-other named few words other))
