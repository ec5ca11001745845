-- The neighbours of an object that is seen through a path, where the method is not ordered.
use Rattle.vc_base.proofs.Common.{◌≡◌, ℕ, Bool, true, false, not, ◌&&◌, ◌||◌, eqb, List, [], ◌∷◌, ◌++◌, map, is_some, IsSome, Some, None, filter, Option, option_map, flat_map, sym, refl, ap, ◌∙◌, subst, inl, inr, true≢false, append_assoc, eq-eqb, ne_eqb, eqb-true, cases_Bool, eqb-false, or_from, or_parts, filter-append, list_any-append, map-append, list_any, option_or, AreDistinct, contains, is_ordered}
use Rattle.std.proofs.lemmas.List.Concat.{flat_map-append}
use Rattle.vc_base.proofs.Quantifiers.{any-map}
use Rattle.vc_dtdisc.specs.Finding.{before_first, behind_last, first_of, last_of}
use Rattle.vc_dtdisc.specs.Objects.{Object}
use Rattle.vc_paths.specs.Direction.{end_of, neighbour, objects_left, place_beside}
use Rattle.vc_paths.specs.Layers.{AreLayers, Layered, bytes_there, place_in, stands_at}
use Rattle.vc_paths.specs.Links.{ArePaths, Links, below}
use Rattle.vc_paths.specs.Path.{IsAlike, IsPath, IsVisible, is_at, place_of, visible_of, is_place}
use Rattle.vc_paths.specs.Shown.{IsOnPath, above, down, is_covered, places, unhidden_objects, shown_in}
use Rattle.vc_paths.proofs.DownLemmas.{above-on, above-stop, on-head, on-next, on-start, parted-at}
use Rattle.vc_paths.proofs.EndLemmas.{any-filter, any-flat_map, before-at, behind-at, first-append, last-append, last-or, neighbour-map, parted}
use Rattle.vc_paths.proofs.PathLemmas.{path-distinct}
use Rattle.vc_paths.proofs.PlaceLemmas.{Standing, apart-once, left-beside, rest_of, standing-any, there}
use Rattle.vc_paths.proofs.SeenLemmas.{end-place}
use Rattle.vc_paths.proofs.ShownLemmas.{visible-places}

-- where an object is seen: what its path has above and below, and what stands around it in its layer
pub record Spot (all : Layered) (links : Links) (d e a : ℕ) : Type 0 where
  pub paths : ArePaths links
  pub start : IsOnPath all links d (Some d)
  pub visible : map place_of (visible_of all links d) ≡ flat_map (shown_in all links d) (down links (Some d))
  pub upper : List ℕ
  pub lower : List ℕ
  pub whole : down links (Some d) ≡ upper ++ e ∷ lower
  pub on : IsOnPath all links d (Some e)
  pub rest : lower ≡ down links (below links e)
  pub end : above (Some e) (down links (Some d)) ≡ upper
  pub alike : IsAlike all d e
  pub apart : AreDistinct (map (λ o. o.at) (all.layer e).objects)
  pub around : Standing (all.layer e).objects a
  pub seen : is_covered all links d e around.one.bytes ≡ false
  pub first : list_any (is_place (e, a)) (flat_map (shown_in all links d) upper) ≡ false
  pub last : list_any (is_place (e, a)) (flat_map (shown_in all links d) lower) ≡ false

-- whether objects of a dictionary stand at a place
any-here : (e a u : ℕ) (xs : List Object) → eqb u e ≡ true → list_any (is_place (e, a)) (places u xs) ≡ list_any (stands_at a) xs
any-here e a u [] h = refl
any-here e a u (x ∷ xs) h = ap (λ z. (z && eqb x.at a) || list_any (is_place (e, a)) (places u xs)) h ∙ ap (λ z. eqb x.at a || z) (any-here e a u xs h)

any-apart : (e a u : ℕ) (xs : List Object) → eqb u e ≡ false → list_any (is_place (e, a)) (places u xs) ≡ false
any-apart e a u [] h = refl
any-apart e a u (x ∷ xs) h = ap (λ z. (z && eqb x.at a) || list_any (is_place (e, a)) (places u xs)) h ∙ any-apart e a u xs h

-- none does where no layer has that number
apart-none : (e a : ℕ) (objects : ℕ → List Object) (us : List ℕ) → contains us e ≡ false → list_any (is_place (e, a)) (flat_map (λ u. places u (objects u)) us) ≡ false
apart-none e a objects [] h = refl
apart-none e a objects (u ∷ us) h =
    list_any-append (is_place (e, a)) (places u (objects u)) (flat_map (λ x. places x (objects x)) us)
    ∙ or_from (list_any (is_place (e, a)) (places u (objects u))) (list_any (is_place (e, a)) (flat_map (λ x. places x (objects x)) us)) (any-apart e a u (objects u) (or_parts (eqb u e) (contains us e) h).0) (apart-none e a objects us (or_parts (eqb u e) (contains us e) h).1)

-- the numbers before one that stands in just one place
above-at : (e : ℕ) (upper lower : List ℕ) → contains upper e ≡ false → above (Some e) (upper ++ e ∷ lower) ≡ upper
above-at e [] lower h = above-stop (Some e) e lower (eq-eqb e e refl)
above-at e (u ∷ us) lower h =
    let w = or_parts (eqb u e) (contains us e) h in
    above-on (Some e) u (us ++ e ∷ lower) (ne_eqb e u (λ same. eqb-false u e w.0 (sym same))) ∙ ap (λ z. u ∷ z) (above-at e us lower w.1)

-- one that passes and is kept is among all
kept-any : {A : Type 0} (t k : A → Bool) (xs : List A) → list_any t (filter k xs) ≡ true → list_any t xs ≡ true
kept-any t k xs h = elim (cases_Bool (list_any t xs)) as (λ _. list_any t xs ≡ true) [
  | inl k' ↦ k'
  | inr k' ↦ absurd (true≢false (sym h ∙ any-filter t k xs k'))
]

-- where the only one that passes is left out none does
lost-any : {A : Type 0} (t k : A → Bool) (front : List A) (x : A) (back : List A) → k x ≡ false → list_any t front ≡ false → list_any t back ≡ false → list_any t (filter k (front ++ x ∷ back)) ≡ false
lost-any t k front x back h f b =
    let lost : filter k (x ∷ back) ≡ filter k back = rw h refl in
    ap (list_any t) (filter-append k front (x ∷ back) ∙ ap (λ z. filter k front ++ z) lost)
    ∙ list_any-append t (filter k front) (filter k back)
    ∙ or_from (list_any t (filter k front)) (list_any t (filter k back)) (any-filter t k front f) (any-filter t k back b)

-- an object that is seen is one of those that its layer shows
record Found (all : Layered) (links : Links) (d e a u : ℕ) : Type 0 where
  same : u ≡ e
  some : list_any (stands_at a) (unhidden_objects all links d u (all.layer u).objects) ≡ true

found-in : (all : Layered) (links : Links) (d e a u : ℕ) → list_any (is_place (e, a)) (shown_in all links d u) ≡ true → Found all links d e a u
found-in all links d e a u h = elim (cases_Bool (eqb u e)) as (λ _. Found all links d e a u) [
  | inl k ↦ record { same = eqb-true u e k; some = sym (any-here e a u (unhidden_objects all links d u (all.layer u).objects) k) ∙ h }
  | inr k ↦ absurd (true≢false (sym h ∙ any-apart e a u (unhidden_objects all links d u (all.layer u).objects) k))
]

distinct-down : (links : Links) (d : ℕ) → ArePaths links → AreDistinct (down links (Some d))
unfolding down
distinct-down links d p = path-distinct links d p

seen-around : (all : Layered) (links : Links) (d e a : ℕ) (s : Standing (all.layer e).objects a) → list_any (stands_at a) (unhidden_objects all links d e (all.layer e).objects) ≡ true → is_covered all links d e s.one.bytes ≡ false
seen-around all links d e a s h = elim (cases_Bool (is_covered all links d e s.one.bytes)) as (λ _. is_covered all links d e s.one.bytes ≡ false) [
  | inl k ↦ absurd (true≢false (sym h ∙ ap (λ z. list_any (stands_at a) (unhidden_objects all links d e z)) s.whole
      ∙ lost-any (stands_at a) (λ o. not (is_covered all links d e o.bytes)) s.before s.one s.behind (ap not k) s.first s.last))
  | inr k ↦ k
]

spot-by : (all : Layered) (links : Links) (d e a : ℕ) (upper : List ℕ) (u : ℕ) (lower : List ℕ) → AreLayers all → ArePaths links → IsOnPath all links d (Some d)
    → map place_of (visible_of all links d) ≡ flat_map (shown_in all links d) (down links (Some d)) → down links (Some d) ≡ upper ++ u ∷ lower → Found all links d e a u → Spot all links d e a
spot-by all links d e a upper u lower laws p on visible whole found =
    let here : down links (Some d) ≡ upper ++ e ∷ lower = whole ∙ ap (λ z. upper ++ z ∷ lower) found.same in
    let parts = parted-at all links d upper (Some d) e lower p on here in
    let once = apart-once upper e lower (subst AreDistinct here (distinct-down links d p)) in
    let some : list_any (stands_at a) (unhidden_objects all links d e (all.layer e).objects) ≡ true
    = subst (λ z. list_any (stands_at a) (unhidden_objects all links d z (all.layer z).objects) ≡ true) found.same found.some in
    let alike = on-head p refl parts.on in
    let apart = laws.distinct e alike.there in
    let s = standing-any (all.layer e).objects a apart (kept-any (stands_at a) (λ o. not (is_covered all links d e o.bytes)) (all.layer e).objects some) in
    record {
      paths = p;
      start = on;
      visible = visible;
      upper = upper;
      lower = lower;
      whole = here;
      on = parts.on;
      rest = parts.rest;
      end = ap (above (Some e)) here ∙ above-at e upper lower once.0;
      alike = alike;
      apart = apart;
      around = s;
      seen = seen-around all links d e a s some;
      first = apart-none e a (λ x. unhidden_objects all links d x (all.layer x).objects) upper once.0;
      last = apart-none e a (λ x. unhidden_objects all links d x (all.layer x).objects) lower once.1;
    }

pub spot : {all : Layered} {links : Links} {d e a : ℕ} → AreLayers all → ArePaths links → IsPath all links d → is_ordered (all.layer d).method ≡ false → IsVisible all links d (e, a) → Spot all links d e a
spot {all} {links} {d} {e} {a} laws p is method h =
    let shows = shown_in all links d in
    let visible = visible-places all links d p method in
    let some : list_any (λ u. list_any (is_place (e, a)) (shows u)) (down links (Some d)) ≡ true
    = sym (any-flat_map (is_place (e, a)) shows (down links (Some d)))
    ∙ ap (list_any (is_place (e, a))) (sym visible)
    ∙ any-map place_of (is_place (e, a)) (visible_of all links d)
    ∙ h in
    let w = parted (λ u. list_any (is_place (e, a)) (shows u)) (down links (Some d)) some in
    spot-by all links d e a w.front w.one w.back laws p (on-start is) visible w.whole (found-in all links d e a w.one w.passes)

module _ {all : Layered} {links : Links} {d e a : ℕ} (s : Spot all links d e a) where
  -- its layer around it
  layer-parts : shown_in all links d e ≡ places e (unhidden_objects all links d e s.around.before) ++ (e, a) ∷ places e (unhidden_objects all links d e s.around.behind)
  layer-parts =
      let kept : unhidden_objects all links d e (s.around.one ∷ s.around.behind) ≡ s.around.one ∷ unhidden_objects all links d e s.around.behind = rw s.seen refl in
      ap (λ z. places e (unhidden_objects all links d e z)) s.around.whole
      ∙ ap (places e) (filter-append (λ o. not (is_covered all links d e o.bytes)) s.around.before (s.around.one ∷ s.around.behind) ∙ ap (λ z. unhidden_objects all links d e s.around.before ++ z) kept)
      ∙ map-append (λ o. (e, o.at)) (unhidden_objects all links d e s.around.before) (s.around.one ∷ unhidden_objects all links d e s.around.behind)
      ∙ ap (λ z. places e (unhidden_objects all links d e s.around.before) ++ (e, z) ∷ places e (unhidden_objects all links d e s.around.behind)) s.around.here

  front : List (ℕ × ℕ)
  front = flat_map (shown_in all links d) s.upper ++ places e (unhidden_objects all links d e s.around.before)

  back : List (ℕ × ℕ)
  back = places e (unhidden_objects all links d e s.around.behind) ++ flat_map (shown_in all links d) s.lower

  -- all that is seen, at the place
  all-parts : flat_map (shown_in all links d) (down links (Some d)) ≡ front ++ (e, a) ∷ back
  unfolding front back
  all-parts =
      let f = flat_map (shown_in all links d) in
      let before = places e (unhidden_objects all links d e s.around.before) in
      let behind = places e (unhidden_objects all links d e s.around.behind) in
      ap f s.whole
      ∙ flat_map-append (shown_in all links d) s.upper (e ∷ s.lower)
      ∙ ap (λ z. f s.upper ++ (z ++ f s.lower)) layer-parts
      ∙ ap (λ z. f s.upper ++ z) (append_assoc before ((e, a) ∷ behind) (f s.lower))
      ∙ sym (append_assoc (f s.upper) before ((e, a) ∷ (behind ++ f s.lower)))

  it-is : is_place (e, a) (e, a) ≡ true
  it-is = rw (eq-eqb e e refl, eq-eqb a a refl) refl

  front-none : list_any (is_place (e, a)) front ≡ false
  unfolding front
  front-none =
      let xs = unhidden_objects all links d e s.around.before in
      list_any-append (is_place (e, a)) (flat_map (shown_in all links d) s.upper) (places e xs)
      ∙ or_from (list_any (is_place (e, a)) (flat_map (shown_in all links d) s.upper)) (list_any (is_place (e, a)) (places e xs)) s.first
      (any-here e a e xs (eq-eqb e e refl) ∙ any-filter (stands_at a) (λ o. not (is_covered all links d e o.bytes)) s.around.before s.around.first)

  back-none : list_any (is_place (e, a)) back ≡ false
  unfolding back
  back-none =
      let xs = unhidden_objects all links d e s.around.behind in
      list_any-append (is_place (e, a)) (places e xs) (flat_map (shown_in all links d) s.lower)
      ∙ or_from (list_any (is_place (e, a)) (places e xs)) (list_any (is_place (e, a)) (flat_map (shown_in all links d) s.lower))
      (any-here e a e xs (eq-eqb e e refl) ∙ any-filter (stands_at a) (λ o. not (is_covered all links d e o.bytes)) s.around.behind s.around.last) s.last

  -- the first behind it in its layer, or else the first that is seen below
  spot-next : behind_last (is_place (e, a)) (flat_map (shown_in all links d) (down links (Some d)))
      ≡ option_or (first_of (places e (unhidden_objects all links d e s.around.behind))) (first_of (flat_map (shown_in all links d) (down links (below links e))))
  unfolding back
  spot-next =
      ap (behind_last (is_place (e, a))) all-parts
      ∙ behind-at (is_place (e, a)) front (e, a) back it-is back-none
      ∙ first-append (places e (unhidden_objects all links d e s.around.behind)) (flat_map (shown_in all links d) s.lower)
      ∙ ap (λ z. option_or (first_of (places e (unhidden_objects all links d e s.around.behind))) (first_of (flat_map (shown_in all links d) z))) s.rest

  -- the last before it in its layer, or else the last that is seen above
  spot-previous : before_first (is_place (e, a)) (flat_map (shown_in all links d) (down links (Some d)))
      ≡ option_or (last_of (places e (unhidden_objects all links d e s.around.before))) (last_of (flat_map (shown_in all links d) (above (Some e) (down links (Some d)))))
  unfolding front
  spot-previous =
      let f = flat_map (shown_in all links d) in
      let before = places e (unhidden_objects all links d e s.around.before) in
      ap (before_first (is_place (e, a))) all-parts
      ∙ before-at (is_place (e, a)) None front (e, a) back it-is front-none
      ∙ last-append None (f s.upper) before
      ∙ last-or (last_of (f s.upper)) before
      ∙ ap (λ z. option_or (last_of before) (last_of (f z))) (sym s.end)

  -- it stands there, and the path goes on below its layer
  pub spot-there : IsSome (bytes_there a (all.layer e).objects)
  spot-there = ap is_some (there (all.layer e).objects a s.around)

  pub spot-below : {next : Option ℕ} → next ≡ below links e → IsOnPath all links d next
  spot-below step = on-next s.paths refl step s.on

  -- where a walk goes on past the layer
  abbrev pub onward : Bool → List ℕ
  onward false = down links (below links e)
  onward true = above (Some e) (down links (Some d))

  spot-beside : (way : Bool) → neighbour way (is_place (e, a)) (flat_map (shown_in all links d) (down links (Some d)))
      ≡ option_or (end_of way (places e (unhidden_objects all links d e (rest_of way s.around)))) (end_of way (flat_map (shown_in all links d) (onward way)))
  spot-beside false = spot-next
  spot-beside true = spot-previous

  -- so what it finds from the next one on in the layer, or else past it, is the answer
  pub walked : (way : Bool) {start r : Option ℕ} → start ≡ place_beside way a (all.layer e).objects → r ≡ place_in (end_of way (unhidden_objects all links d e (objects_left way start (all.layer e).objects)))
      → option_map place_of (neighbour way (is_at (e, a)) (visible_of all links d)) ≡ option_or (option_map {U = ℕ × ℕ} (λ x. (e, x)) r) (end_of way (flat_map (shown_in all links d) (onward way)))
  walked way at found =
      sym (neighbour-map way place_of (is_place (e, a)) (visible_of all links d))
      ∙ ap (neighbour way (is_place (e, a))) s.visible
      ∙ spot-beside way
      ∙ ap (λ z. option_or z (end_of way (flat_map (shown_in all links d) (onward way)))) (sym (ap (option_map {U = ℕ × ℕ} (λ x. (e, x))) (found
      ∙ ap (λ z. place_in (end_of way (unhidden_objects all links d e z))) (left-beside s.apart s.around way at))
      ∙ end-place way e (unhidden_objects all links d e (rest_of way s.around))))
