-- Copies of dictionaries, one after the other, and how many there are.
use Rattle.vc_base.proofs.Common.{Result, Ok, Err, IfOk, IfErr, ◌≡◌, ℕ, zero, suc, ◌+◌, ◌<◌, ◌≤◌, Bool, true, false, eqb, List, [], ◌∷◌, ◌++◌, map, length, take, slice_get, Some, IsSome, bytes_eq, sym, refl, ap, ◌∙◌, subst, inl, inr, arith, add-one, append-nil, length-map, length-append, ne_eqb, eqb_tells, length-le_from_distinct_below, AllByRecursion, IsDistinct, list_any, AreDistinct, contains}
use Rattle.std.proofs.lemmas.Grind.{flat_map-append}
use Rattle.vc_base.proofs.Members.{apart-head, apart-tail}
use Rattle.vc_commands.specs.declared.dict.entry.DictEntry.{DictEntry}
use Rattle.vc_commands.specs.declared.region.home.HomeEntry.{HomeEntry}
use Rattle.vc_dict.specs.declared.dict.Dict.{Dict}
use Rattle.vc_dtdisc.specs.Rules.{Rules}
use Rattle.vc_image.specs.Save.{image_in}
use Rattle.vc_image_run.specs.Script.Copies.{KindsFit, copies_in, copies_of}
use Rattle.vc_image_run.specs.Script.Found.{IsFirstImage, IsUnsaved, WhyNone}
use Rattle.vc_image_run.specs.declared.script.fault.ScriptFault.{ScriptFault}
use Rattle.vc_image_run.specs.declared.script.fault.ScriptFault.TheVariants.{Line, Read, Write, Memory, NoRegion, WrongMethod, Unsound}
use Rattle.vc_region.specs.OfBest.{best_in}
use Rattle.vc_steps.specs.declared.session.Session.{Session}
use Rattle.vc_paths.specs.Links.{numbers}
use Rattle.vc_views.specs.Dicts.{HaveViewNumbers, number_in}

take-push : {A : Type 0} (xs : List A) (i : ℕ) (x : A) → slice_get xs i ≡ Some x → take (suc i) xs ≡ take i xs ++ x ∷ []
take-push [] i x at = absurd cc
take-push (y ∷ ys) zero x at = ap (λ z. z ∷ []) cc
take-push (y ∷ ys) (suc i) x at = ap (λ zs. y ∷ zs) (take-push ys i x at)

-- the copies of the entries so far, and of one more
pub copies-push : (region : List ℕ) (es : List (List ℕ × DictEntry)) (i : ℕ) (e : List ℕ × DictEntry) (old new : List Dict) → slice_get es i ≡ Some e → old ≡ copies_in region (take i es) → new ≡ old ++ copies_of region e.1 → new ≡ copies_in region (take (i + 1) es)
copies-push region es i e old new at before after =
    after
    ∙ (ap (λ xs. xs ++ copies_of region e.1) before
    ∙ (ap (λ xs. copies_in region (take i es) ++ xs) (sym (append-nil (copies_of region e.1)))
    ∙ (sym (flat_map-append (λ (x : List ℕ × DictEntry). copies_of region x.1) (take i es) (e ∷ []))
    ∙ ap (λ xs. copies_in region xs) (sym (ap (λ n. take n es) (add-one i) ∙ take-push es i e at)))))

-- the kinds of all fit where those of both parts do
pub kinds-both : (xs ys : List Dict) → KindsFit xs → KindsFit ys → KindsFit (xs ++ ys)
kinds-both [] ys first rest = rest
kinds-both (x ∷ xs) ys first rest = (first.0, kinds-both xs ys first.1 rest)

one-most : (region : List ℕ) (e : DictEntry) (t : Bool) → bytes_eq e.home region ≡ t → length (copies_of region e) ≤ 1
one-most region e true is = rw is (omega arith)
one-most region e false is = rw is (omega arith)

-- there are no more than entries
pub copies-fewer : (region : List ℕ) (es : List (List ℕ × DictEntry)) → length (copies_in region es) ≤ length es
copies-fewer region [] = omega arith
copies-fewer region (e ∷ es) =
    let one = one-most region e.1 (bytes_eq e.1.home region) refl in
    let rest = copies-fewer region es in
    let both = length-append (copies_of region e.1) (copies_in region es) in
    omega (arith, one, rest, both)

apart_all : (x : ℕ) (xs : List ℕ) → contains xs x ≡ false → AllByRecursion (λ y. eqb x y ≡ false) xs
apart_all x [] h = tt
apart_all x (y ∷ ys) h = (ne_eqb x y (λ e. apart-head y ys x h (sym e)), apart_all x ys (apart-tail y ys x h))

distinct_all : (xs : List ℕ) → AreDistinct xs → IsDistinct eqb xs
unfolding IsDistinct
distinct_all [] d = tt
distinct_all (x ∷ xs) d = (apart_all x xs d.0, distinct_all xs d.1)

below-all : (es : List (List ℕ × DictEntry)) (q : ℕ) → AllByRecursion (λ e. number_in e < numbers) es → list_any (eqb q) (map number_in es) ≡ true → q < numbers
below-all [] q all h = absurd cc
below-all (e ∷ es) q all h = elim (eqb_tells q (number_in e)) as (λ _. q < numbers) [
  | inl same ↦ subst (λ z. z < numbers) (sym same.1) all.0
  | inr apart ↦ below-all es q all.1 (rw apart.0 at h)
]

-- and not more entries than numbers on view paths
pub few-entries : (es : List (List ℕ × DictEntry)) → HaveViewNumbers es → length es ≤ 256
few-entries es have =
    let few : length (map number_in es) ≤ numbers = length-le_from_distinct_below (map number_in es) numbers (distinct_all (map number_in es) have.distinct) (λ q h. below-all es q have.below h) in
    let same = length-map es number_in in
    omega (arith, few, same)

-- the image of a first region with copies of its dictionaries
pub first-image : {I : Type 0} {V : I → Type 0} {D : Type 0} (session : Session D I V) (entry : List ℕ × HomeEntry I V) (dicts : List Dict) (image : List ℕ) → slice_get session.homes.entries 0 ≡ Some entry → IsSome (best_in entry.1.region) → dicts ≡ copies_in entry.0 session.dicts.entries → KindsFit dicts → image ≡ image_in entry.1.region dicts → IsFirstImage session image
first-image session entry dicts image first best copies fit is = record {
  entry = entry;
  first = first;
  best = best;
  kinds_fit = subst KindsFit copies fit;
  image_is = is ∙ ap (image_in entry.1.region) copies;
}

-- and what keeps a region from being saved keeps the session's first one
pub why-none : {I : Type 0} {V : I → Type 0} {D : Type 0} (kinds : List Rules) (session : Session D I V) (image : List ℕ) → IsFirstImage session image → (why : ScriptFault) → IsUnsaved kinds image why → WhyNone kinds session why
why-none kinds session image first (Line n why) un = absurd un
why-none kinds session image first Read un = absurd un
why-none kinds session image first Write un = absurd un
why-none kinds session image first Memory un = tt
why-none kinds session image first NoRegion un = absurd un
why-none kinds session image first WrongMethod un = absurd un
why-none kinds session image first (Unsound part) un = (image, (first, un))

pub ok-each : {T E : Type 0} (r : Result T E) {P Q : T → Type 0} → ((x : T) → P x → Q x) → IfOk r P → IfOk r Q
ok-each (Ok x) f p = f x p
ok-each (Err e) f p = tt

pub err-each : {T E : Type 0} (r : Result T E) {P Q : E → Type 0} → ((x : E) → P x → Q x) → IfErr r P → IfErr r Q
err-each (Ok x) f p = tt
err-each (Err e) f p = f e p
