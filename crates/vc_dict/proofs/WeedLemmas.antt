-- One step of a pass that drops what matches an earlier holder.
use Rattle.vc_base.proofs.Common.{◌≡◌, ℕ, ◌+◌, ◌≤◌, Bool, true, false, ◌≢◌, List, [], ◌∷◌, ◌++◌, length, is_some, if◌then◌else◌, Some, None, Option, option_map, is_eq, sym, refl, ap, ◌∙◌, append_assoc, append-nil, arith, length-append, nil_from_length, Blocks, KeepsBut, contains}
use Rattle.vc_base.specs.declared.addr.Addr.{Addr}
use Rattle.vc_base.specs.Holders.{last_of}
use Rattle.vc_base.proofs.Members.{apart-head, apart-tail, apart-cons, apart-front, apart-rest, within-head, within-tail}
use Rattle.vc_dtdisc.specs.Finds.{find_key, has_key, object_at}
use Rattle.vc_dtdisc.specs.Rules.{Rules}
use Rattle.vc_dtlist.specs.declared.dt_list.DtList.{DtList}
use Rattle.vc_dtlist.specs.Linked.{Turned, number_of}
use Rattle.vc_dtlist.proofs.HolderLemmas.{apart-append, last-differs}
use Rattle.vc_dtlist.proofs.KeptLemmas.{StandsFor-kept}
use Rattle.vc_dict.specs.declared.weeded.Weeded.{Weeded}
use Rattle.vc_dict.specs.Orders.{dropped_holders, has_match, kept_holders}
use Rattle.vc_dict.specs.Passes.{AreApart}
use Rattle.vc_dict.specs.Weeding.{Added, Parts, Weeding, last_matches}
use Rattle.vc_dict.proofs.PassLemmas.{apart_back, differs}

-- parts over blocks that a call on another list left
pub Parts-kept : (w : Weeded) (b b' : Blocks) (done gone others : List ℕ) → KeepsBut others b b' → AreApart done others → AreApart gone others → Parts w b done gone → Parts w b' done gone
Parts-kept w b b' done gone others k d g p = record {
  done_stands = StandsFor-kept w.kept b b' done others k d p.done_stands;
  gone_stands = StandsFor-kept w.dropped b b' gone others k g p.gone_stands;
  count = p.count;
  apart = p.apart;
}

-- an address that isn't in a list is apart from those that are
pub apart_new : (xs ys : List ℕ) (at : ℕ) → AreApart xs ys → contains xs at ≡ false → AreApart xs (at ∷ ys)
apart_new xs ys at h n a w = apart-cons at ys a (differs xs a at w n) (h a w)

-- one is dropped
pub Added-dropped : (w : Weeded) (b b' : Blocks) (at : ℕ) (done gone : List ℕ) (list : DtList) → Parts w b done gone → contains done at ≡ false → contains gone at ≡ false → Turned at gone b list b' (gone ++ at ∷ []) → Added at true done gone b (record w { dropped = list }) b'
Added-dropped w b b' at done gone list p d g t = record {
  parts = record {
    done_stands = StandsFor-kept w.kept b b' done (at ∷ gone) t.keeps (apart_new done gone at p.apart d) p.done_stands;
    gone_stands = t.stands;
    count = p.count;
    apart = λ a h. apart-append gone (at ∷ []) a (p.apart a h) (apart-cons at [] a (differs done a at h d) refl);
  };
  keeps = record {
    there = t.keeps.there;
    sizes = t.keeps.sizes;
    bodies = t.keeps.bodies;
    others = λ a h. t.keeps.others a (apart-cons at gone a (apart-head at (done ++ gone) a h) (apart-rest done gone a (apart-tail at (done ++ gone) a h)));
  };
}

-- one is kept
pub Added-kept : (w : Weeded) (b b' : Blocks) (at : ℕ) (done gone : List ℕ) (list : DtList) (n : ℕ) → Parts w b done gone → contains done at ≡ false → contains gone at ≡ false → Turned at done b list b' (done ++ at ∷ []) → n ≡ w.count + 1 → Added at false done gone b (record w { kept = list; count = n }) b'
Added-kept w b b' at done gone list n p d g t e =
    let long : length (done ++ at ∷ []) ≡ length done + 1 = length-append done (at ∷ []) in
    let back = apart_back done gone p.apart in
    record {
      parts = record {
        done_stands = t.stands;
        gone_stands = StandsFor-kept w.dropped b b' gone (at ∷ done) t.keeps (apart_new gone done at back g) p.gone_stands;
        count = omega (arith, e, long, p.count);
        apart = apart_back gone (done ++ at ∷ []) (λ a h. apart-append done (at ∷ []) a (back a h) (apart-cons at [] a (differs gone a at h g) refl));
      };
      keeps = record {
        there = t.keeps.there;
        sizes = t.keeps.sizes;
        bodies = t.keeps.bodies;
        others = λ a h. t.keeps.others a (apart-cons at done a (apart-head at (done ++ gone) a h) (apart-front done gone a (apart-tail at (done ++ gone) a h)));
      };
    }

-- a match is the same over blocks with the same objects
pub key_same : (rules : Rules) (b b' : Blocks) (key : List ℕ) (xs : List ℕ) → ((a : ℕ) → contains xs a ≡ true → object_at b' a ≡ object_at b a) → find_key rules b' key xs ≡ find_key rules b key xs
key_same rules b b' key [] e = refl
key_same rules b b' key (x ∷ xs) e =
    ap (λ o. if is_eq (rules.compare (rules.key o) key) then Some x else find_key rules b' key xs) (e x (within-head x xs))
    ∙ ap (λ r. if has_key rules b key x then Some x else r) (key_same rules b b' key xs (λ a h. e a (within-tail x xs a h)))

match_there : (rules : Rules) (b b' : Blocks) (xs : List ℕ) (at : ℕ) → object_at b' at ≡ object_at b at → ((a : ℕ) → contains xs a ≡ true → object_at b' a ≡ object_at b a) → has_match rules b' xs at ≡ has_match rules b xs at
match_there rules b b' xs at f e =
    ap (λ o. is_some (find_key rules b' (rules.key o) xs)) f ∙ ap is_some (key_same rules b b' (rules.key (object_at b at)) xs e)

pub match_same : (rules : Rules) (b b' : Blocks) (xs : List ℕ) (at : ℕ) → ((a : ℕ) → object_at b' a ≡ object_at b a) → has_match rules b' xs at ≡ has_match rules b xs at
match_same rules b b' xs at e = match_there rules b b' xs at (e at) (λ a _. e a)

pub last_same : (rules : Rules) (b b' : Blocks) (xs : List ℕ) (at : ℕ) → ((a : ℕ) → object_at b' a ≡ object_at b a) → last_matches rules b' xs at ≡ last_matches rules b xs at
last_same rules b b' [] at e = refl
last_same rules b b' (x ∷ xs) at e =
    ap (λ o. is_eq (rules.compare (rules.key (object_at b' (last_of x xs))) (rules.key o))) (e at)
    ∙ ap (λ o. is_eq (rules.compare (rules.key o) (rules.key (object_at b at)))) (e (last_of x xs))

some_mapped : (o : Option Addr) (p : Option ℕ) → option_map number_of o ≡ p → is_some o ≡ is_some p
some_mapped None p e = ap is_some e
some_mapped (Some x) p e = ap is_some e

-- what was found is a match
pub found_match : (rules : Rules) (start b : Blocks) (done : List ℕ) (at : ℕ) (key : List ℕ) (o : Option Addr) (t : Bool) → object_at b at ≡ object_at start at → ((a : ℕ) → contains done a ≡ true → object_at b a ≡ object_at start a) → key ≡ rules.key (object_at b at) → option_map number_of o ≡ find_key rules b key done → t ≡ is_some o → has_match rules start done at ≡ t
found_match rules start b done at key o t own others e f h =
    sym (match_there rules start b done at own others) ∙ ap (λ z. is_some (find_key rules b z done)) (sym e) ∙ sym (some_mapped o (find_key rules b key done) f) ∙ sym h

-- the last of a list, if any, is what its end names
pub last-none : (xs : List ℕ) (p : ℕ) → p ≡ last_of 0 xs → contains xs 0 ≡ false → p ≡ 0 → xs ≡ []
last-none [] p e none zero = refl
last-none (x ∷ xs) p e none zero = absurd (last-differs 0 x xs none (sym zero ∙ e))

pub last-is : (rules : Rules) (b : Blocks) (xs : List ℕ) (p at : ℕ) → p ≡ last_of 0 xs → p ≢ 0 → last_matches rules b xs at ≡ has_key rules b (rules.key (object_at b at)) p
last-is rules b [] p at e some = absurd (some e)
last-is rules b (x ∷ xs) p at e some = ap (has_key rules b (rules.key (object_at b at))) (sym e)

-- one more was kept or dropped
kept_step : (rules : Rules) (start : Blocks) (done rest : List ℕ) (at : ℕ) (t : Bool) → has_match rules start done at ≡ t → kept_holders rules start (if t then done else done ++ at ∷ []) rest ≡ kept_holders rules start done (at ∷ rest)
kept_step rules start done rest at true e = rw e refl
kept_step rules start done rest at false e = rw e refl

dropped_step : (rules : Rules) (start : Blocks) (done gone rest : List ℕ) (at : ℕ) (t : Bool) → has_match rules start done at ≡ t → (if t then gone ++ at ∷ [] else gone) ++ dropped_holders rules start (if t then done else done ++ at ∷ []) rest ≡ gone ++ dropped_holders rules start done (at ∷ rest)
dropped_step rules start done gone rest at true e = rw e (append_assoc gone (at ∷ []) (dropped_holders rules start done rest))
dropped_step rules start done gone rest at false e = rw e refl

-- either may have got one more
either_apart : (t : Bool) (xs : List ℕ) (at a : ℕ) → contains xs a ≡ false → at ≢ a → contains (if t then xs ++ at ∷ [] else xs) a ≡ false
either_apart true xs at a h ne = apart-append xs (at ∷ []) a h (apart-cons at [] a ne refl)
either_apart false xs at a h ne = h

other_apart : (t : Bool) (xs : List ℕ) (at a : ℕ) → contains xs a ≡ false → at ≢ a → contains (if t then xs else xs ++ at ∷ []) a ≡ false
other_apart true xs at a h ne = h
other_apart false xs at a h ne = apart-append xs (at ∷ []) a h (apart-cons at [] a ne refl)

either_few : (t : Bool) (xs ys : List ℕ) (n : ℕ) → length xs ≤ n → length ys ≤ n → length (if t then xs else ys) ≤ n
either_few true xs ys n e f = e
either_few false xs ys n e f = f

-- both are apart still
both_apart : (t : Bool) (done gone : List ℕ) (at : ℕ) → AreApart done gone → contains done at ≡ false → contains gone at ≡ false → AreApart (if t then done else done ++ at ∷ []) (if t then gone ++ at ∷ [] else gone)
both_apart true done gone at h d g = λ a w. apart-append gone (at ∷ []) a (h a w) (apart-cons at [] a (differs done a at w d) refl)
both_apart false done gone at h d g =
    apart_back gone (done ++ at ∷ []) (λ a w. apart-append done (at ∷ []) a (apart_back done gone h a w) (apart-cons at [] a (differs gone a at w g) refl))

-- the first of what is left goes to those that are dropped, or to those that are kept
pub Weeding-next : (rules : Rules) (start : Blocks) (holders : List ℕ) (passed at : ℕ) (done gone tail : List ℕ) (t : Bool) → contains tail at ≡ false → has_match rules start done at ≡ t → Weeding rules start holders passed done gone (at ∷ tail) → Weeding rules start holders (passed + 1) (if t then done else done ++ at ∷ []) (if t then gone ++ at ∷ [] else gone) tail
Weeding-next rules start holders passed at done gone tail t d e s =
    let in_rest : (a : ℕ) → contains tail a ≡ true → contains (at ∷ tail) a ≡ true = λ a h. within-tail at tail a h in
    let long : length (done ++ at ∷ []) ≡ length done + 1 = length-append done (at ∷ []) in
    record {
      whole_kept = kept_step rules start done tail at t e ∙ s.whole_kept;
      whole_dropped = dropped_step rules start done gone tail at t e ∙ s.whole_dropped;
      count = omega (arith, s.count);
      few = either_few t done (done ++ at ∷ []) (passed + 1) (omega (arith, s.few)) (omega (arith, s.few, long));
      apart = both_apart t done gone at s.apart (s.apart_done at (within-head at tail)) (s.apart_gone at (within-head at tail));
      apart_done = λ a h. other_apart t done at a (s.apart_done a (in_rest a h)) (differs tail a at h d);
      apart_gone = λ a h. either_apart t gone at a (s.apart_gone a (in_rest a h)) (differs tail a at h d);
      rest_within = λ a h. apart-tail at tail a (s.rest_within a h);
      done_within = λ a h. other_apart t done at a (s.done_within a h) (apart-head at tail a (s.rest_within a h));
      gone_within = λ a h. either_apart t gone at a (s.gone_within a h) (apart-head at tail a (s.rest_within a h));
    }

pub Weeding-start : (rules : Rules) (b : Blocks) (holders : List ℕ) → Weeding rules b holders 0 [] [] holders
Weeding-start rules b holders = record {
  whole_kept = refl;
  whole_dropped = refl;
  count = omega arith;
  few = omega arith;
  apart = λ a h. refl;
  apart_done = λ a h. refl;
  apart_gone = λ a h. refl;
  rest_within = λ a h. h;
  done_within = λ a h. refl;
  gone_within = λ a h. refl;
}

pub all-kept : (rules : Rules) (start : Blocks) (holders : List ℕ) (passed : ℕ) (done gone rest : List ℕ) → Weeding rules start holders passed done gone rest → length holders ≤ passed → done ≡ kept_holders rules start [] holders
all-kept rules start holders passed done gone rest s h =
    ap (kept_holders rules start done) (sym (nil_from_length rest (omega (arith, h, s.count)))) ∙ s.whole_kept

pub all-dropped : (rules : Rules) (start : Blocks) (holders : List ℕ) (passed : ℕ) (done gone rest : List ℕ) → Weeding rules start holders passed done gone rest → length holders ≤ passed → gone ≡ dropped_holders rules start [] holders
all-dropped rules start holders passed done gone rest s h =
    sym (append-nil gone) ∙ ap (λ z. gone ++ dropped_holders rules start done z) (sym (nil_from_length rest (omega (arith, h, s.count)))) ∙ s.whole_dropped
