-- What a list stands for after one holder joined it or left it.
use Rattle.vc_base.proofs.Common.{◌≡◌, ℕ, ◌^◌, ◌<◌, ◌≤◌, true, false, ◌≢◌, List, [], ◌∷◌, ◌++◌, if◌then◌else◌, IsSome, ◌==◌, None, All, sym, refl, ap, ◌∙◌, subst, arith, Blocks, HasBytes, IsAddress, IsHolder, WordWritten, WordsWritten, word_at, contains, first_of, next_in, previous_in, some_address, without}
use Rattle.vc_base.specs.Holders.{last_of}
use Rattle.vc_base.proofs.Members.{apart-head, apart-tail, apart-front, apart-rest, without-split, next_in-split, previous_in-split}
use Rattle.vc_dtlist.specs.declared.dt_list.DtList.{DtList}
use Rattle.vc_dtlist.specs.Linked.{CanAdd, Chain, HasLinks, IsIn, IsJoined, IsPlain, LinksFor, Relinked, StandsFor, Turned}
use Rattle.vc_dtlist.proofs.WordLemmas.{HasBytes-written, word-kept}
use Rattle.vc_dtlist.proofs.HolderLemmas.{Split, apart-append, distinct-insert, distinct-remove, last_of-append, some-first, some-last, split}
use Rattle.vc_dtlist.proofs.ChainLemmas.{Chain-other, Chain-front, Chain-rest, Chain-append, Chain-none}
use Rattle.vc_dtlist.proofs.PlainLemmas.{All-inserted, All-without, plain-kept, plain-other}
use Rattle.vc_dtlist.proofs.JoinLemmas.{first-joined, last-joined, last-parted, links_stay, neighbours, neighbours_keep}

-- a holder of a chain is one, at an address
last_holder : (b : Blocks) (p x : ℕ) (xs : List ℕ) (n : ℕ) → Chain b p (x ∷ xs) n → IsHolder b (last_of x xs)
last_holder b p x [] n c = c.0.holder
last_holder b p x (y ∷ ys) n c = last_holder b x y ys n c.1

last_address : (b : Blocks) (p x : ℕ) (xs : List ℕ) (n : ℕ) → Chain b p (x ∷ xs) n → IsAddress (last_of x xs)
last_address b p x [] n c = c.0.address
last_address b p x (y ∷ ys) n c = last_address b x y ys n c.1

pub fewer : (b : Blocks) (a : ℕ) → IsHolder b a → HasBytes b a 32
fewer b a h = record { there = h.there; enough = omega (arith, h.enough) }

-- the last of a chain has its words, and is an address or 0
pub last_words : (b : Blocks) (xs : List ℕ) (n p : ℕ) → Chain b 0 xs n → p ≡ last_of 0 xs → p ≢ 0 → HasBytes b p 32
last_words b [] n p c e some = absurd (some e)
last_words b (x ∷ xs) n p c e some = rw e (fewer b (last_of x xs) (last_holder b 0 x xs n c))

pub last_fits : (b : Blocks) (xs : List ℕ) (n : ℕ) → Chain b 0 xs n → last_of 0 xs < 2 ^ 32
last_fits b [] n c = omega arith
last_fits b (x ∷ xs) n c = (last_address b 0 x xs n c).fits

-- and likewise the first
pub first_words : (b : Blocks) (p : ℕ) (xs : List ℕ) (a : ℕ) → Chain b p xs 0 → a ≡ first_of xs 0 → a ≢ 0 → HasBytes b a 32
first_words b p [] a c e some = absurd (some e)
first_words b p (x ∷ xs) a c e some = rw e (fewer b x c.0.holder)

pub first_fits : (b : Blocks) (p : ℕ) (xs : List ℕ) → Chain b p xs 0 → first_of xs 0 < 2 ^ 32
first_fits b p [] c = omega arith
first_fits b p (x ∷ xs) c = c.0.address.fits

-- one joined linked holders between two neighbours
pub Relinked-joined : (old new : DtList) (m0 m1 m2 m3 : Blocks) (p at n : ℕ) (front rest : List ℕ)
    → LinksFor old m0 (front ++ rest) → contains (front ++ rest) at ≡ false → p ≡ last_of 0 front → n ≡ first_of rest 0
    → IsAddress at → IsHolder m0 at → (IsSome (m0 0) → ⊥)
    → WordsWritten m0 m1 at → word_at m1 at 0 ≡ p → word_at m1 at 1 ≡ n
    → WordWritten m1 m2 p 1 at → WordWritten m2 m3 n 0 at
    → new.first.0 ≡ (if p == 0 then at else old.first.0) → new.last.0 ≡ (if n == 0 then at else old.last.0)
    → ((a k : ℕ) → 2 ≤ k → word_at m1 a k ≡ word_at m0 a k)
    → Relinked at (front ++ rest) m0 new m3 (front ++ at ∷ rest)
Relinked-joined old new m0 m1 m2 m3 p at n front rest s apart pe ne address holder none w1 previous next w2 w3 fe le words =
    let w : WordWritten m1 m2 (last_of 0 front) 1 at = subst (λ z. WordWritten m1 m2 z 1 at) pe w2 in
    let v : WordWritten m2 m3 (first_of rest 0) 0 at = subst (λ z. WordWritten m2 m3 z 0 at) ne w3 in
    let ls0 = Chain-front m0 0 front rest 0 s.chain in
    let rs0 = Chain-rest m0 0 front rest 0 s.chain in
    let ls1 = Chain-other m0 m1 at 0 front (first_of rest 0) w1 (apart-front front rest at apart) ls0 in
    let rs1 = Chain-other m0 m1 at (last_of 0 front) rest 0 w1 (apart-rest front rest at apart) rs0 in
    let both = neighbours m1 m2 m3 front rest (first_of rest 0) (last_of 0 front) at at w v s.distinct ls1 rs1 in
    let links1 : HasLinks m1 at (last_of 0 front) (first_of rest 0) = record {
      address = address;
      holder = HasBytes-written m0 m1 at at 33 w1 holder;
      previous = previous ∙ pe;
      next = next ∙ ne;
    } in
    let links3 = links_stay m1 m2 m3 front rest at (last_of 0 front) (first_of rest 0) at at w v apart links1 in
    let kept = neighbours_keep m1 m2 m3 front rest at at w v (λ some. none (sym (w1.there 0) ∙ some)) in
    let no_front = Chain-none m0 0 front (first_of rest 0) ls0 in
    let no_rest = Chain-none m0 (last_of 0 front) rest 0 rs0 in
    record {
      links = record {
        first = fe ∙ ap (λ z. if z == 0 then at else old.first.0) pe ∙ ap (λ z. if last_of 0 front == 0 then at else z) s.first ∙ first-joined front rest (at ∷ rest) no_front;
        last = le ∙ ap (λ z. if z == 0 then at else old.last.0) ne ∙ ap (λ z. if first_of rest 0 == 0 then at else z) s.last ∙ last-joined front rest at no_rest ∙ sym (last_of-append 0 front (at ∷ rest));
        chain = Chain-append m3 0 front (at ∷ rest) 0 both.0 (links3, both.1);
        distinct = distinct-insert front rest at s.distinct apart;
      };
      keeps = record {
        there = λ a. kept.there a ∙ w1.there a;
        sizes = λ a. kept.sizes a ∙ w1.sizes a;
        bodies = λ a. kept.bodies a ∙ w1.bodies a;
        others = λ a h. kept.others a (apart-tail at (front ++ rest) a h) ∙ w1.others a (λ e. apart-head at (front ++ rest) a h (sym e));
      };
      words = λ a k least. word-kept m2 m3 n 0 at w3 a k (omega arith) ∙ word-kept m1 m2 p 1 at w2 a k (omega arith) ∙ words a k least;
    }

-- one that was made plain joined a list
pub Turned-joined : (m0 m1 m2 : Blocks) (new : DtList) (at : ℕ) (front rest : List ℕ) → All (IsPlain m0) (front ++ rest) → contains (front ++ rest) at ≡ false → WordsWritten m0 m1 at → IsPlain m1 at → Relinked at (front ++ rest) m1 new m2 (front ++ at ∷ rest) → Turned at (front ++ rest) m0 new m2 (front ++ at ∷ rest)
Turned-joined m0 m1 m2 new at front rest all apart w plain r = record {
  stands = record {
    links = r.links;
    plain = plain-kept m1 m2 (front ++ at ∷ rest) r.words (All-inserted (IsPlain m1) front rest at (plain-other m0 m1 at (front ++ rest) w apart all) plain);
  };
  keeps = record {
    there = λ a. r.keeps.there a ∙ w.there a;
    sizes = λ a. r.keeps.sizes a ∙ w.sizes a;
    bodies = λ a. r.keeps.bodies a ∙ w.bodies a;
    others = λ a h. r.keeps.others a h ∙ w.others a (λ e. apart-head at (front ++ rest) a h (sym e));
  };
}

-- one left linked holders
Relinked-split : (old new : DtList) (m0 m1 m2 : Blocks) (p at n : ℕ) (front rest : List ℕ)
    → LinksFor old m0 (front ++ at ∷ rest) → (IsSome (m0 0) → ⊥) → p ≡ word_at m0 at 0 → n ≡ word_at m0 at 1
    → WordWritten m0 m1 p 1 n → WordWritten m1 m2 n 0 p
    → new.first.0 ≡ (if p == 0 then n else old.first.0) → new.last.0 ≡ (if n == 0 then p else old.last.0)
    → Relinked at (front ++ at ∷ rest) m0 new m2 (front ++ rest)
Relinked-split old new m0 m1 m2 p at n front rest s none pw nw w2 w3 fe le =
    let c = Chain-rest m0 0 front (at ∷ rest) 0 s.chain in
    let pe : p ≡ last_of 0 front = pw ∙ c.0.previous in
    let ne : n ≡ first_of rest 0 = nw ∙ c.0.next in
    let w : WordWritten m0 m1 (last_of 0 front) 1 n = subst (λ z. WordWritten m0 m1 z 1 n) pe w2 in
    let v : WordWritten m1 m2 (first_of rest 0) 0 p = subst (λ z. WordWritten m1 m2 z 0 p) ne w3 in
    let d = distinct-remove front rest at s.distinct in
    let ls0 = Chain-front m0 0 front (at ∷ rest) 0 s.chain in
    let both = neighbours m0 m1 m2 front rest at at n p w v d ls0 c.1 in
    let kept = neighbours_keep m0 m1 m2 front rest n p w v none in
    let no_front = Chain-none m0 0 front at ls0 in
    let no_rest = Chain-none m0 at rest 0 c.1 in
    record {
      links = record {
        first = fe ∙ ap (λ z. if z == 0 then n else old.first.0) pe ∙ ap (λ z. if last_of 0 front == 0 then z else old.first.0) ne ∙ ap (λ z. if last_of 0 front == 0 then first_of rest 0 else z) s.first ∙ first-joined front (at ∷ rest) rest no_front;
        last = le ∙ ap (λ z. if z == 0 then p else old.last.0) ne ∙ ap (λ z. if first_of rest 0 == 0 then z else old.last.0) pe ∙ ap (λ z. if first_of rest 0 == 0 then last_of 0 front else z) s.last ∙ last-parted front rest at no_rest;
        chain = Chain-append m2 0 front rest 0 (subst (λ z. Chain m2 0 front z) ne both.0) (subst (λ z. Chain m2 z rest 0) pe both.1);
        distinct = d;
      };
      keeps = record {
        there = kept.there;
        sizes = kept.sizes;
        bodies = kept.bodies;
        others = λ a h. let t = apart-tail at (front ++ at ∷ rest) a h in kept.others a (apart-append front rest a (apart-front front (at ∷ rest) a t) (apart-tail at rest a (apart-rest front (at ∷ rest) a t)));
      };
      words = λ a k least. word-kept m1 m2 n 0 p w3 a k (omega arith) ∙ word-kept m0 m1 p 1 n w2 a k (omega arith);
    }

pub Relinked-parted : (old new : DtList) (m0 m1 m2 : Blocks) (p at n : ℕ) (xs : List ℕ)
    → LinksFor old m0 xs → Split xs at → (IsSome (m0 0) → ⊥) → p ≡ word_at m0 at 0 → n ≡ word_at m0 at 1
    → WordWritten m0 m1 p 1 n → WordWritten m1 m2 n 0 p
    → new.first.0 ≡ (if p == 0 then n else old.first.0) → new.last.0 ≡ (if n == 0 then p else old.last.0)
    → Relinked at xs m0 new m2 (without at xs)
Relinked-parted old new m0 m1 m2 p at n xs s h none pw nw w2 w3 fe le =
    let done : Relinked at (h.front ++ at ∷ h.rest) m0 new m2 (h.front ++ h.rest) =
    Relinked-split old new m0 m1 m2 p at n h.front h.rest (subst (λ z. LinksFor old m0 z) h.whole s) none pw nw w2 w3 fe le in
    let as_split : Relinked at (h.front ++ at ∷ h.rest) m0 new m2 (without at (h.front ++ at ∷ h.rest)) =
    subst (λ z. Relinked at (h.front ++ at ∷ h.rest) m0 new m2 z) (sym (without-split h.front at h.rest h.before)) done in
    subst (λ z. Relinked at z m0 new m2 (without at z)) (sym h.whole) as_split

-- and a list
pub Turned-parted : (m0 m1 : Blocks) (new : DtList) (at : ℕ) (xs : List ℕ) → All (IsPlain m0) xs → Relinked at xs m0 new m1 (without at xs) → Turned at xs m0 new m1 (without at xs)
Turned-parted m0 m1 new at xs all r = record {
  stands = record { links = r.links; plain = plain-kept m0 m1 (without at xs) r.words (All-without (IsPlain m0) xs at all) };
  keeps = r.keeps;
}

-- a list stands for one list of holders alone
Chain-unique : (b : Blocks) (p q : ℕ) (xs ys : List ℕ) → first_of xs 0 ≡ first_of ys 0 → Chain b p xs 0 → Chain b q ys 0 → xs ≡ ys
Chain-unique b p q [] [] e c d = refl
Chain-unique b p q [] (y ∷ ys) e c d = absurd (omega (arith, d.0.address.some, e))
Chain-unique b p q (x ∷ xs) [] e c d = absurd (omega (arith, c.0.address.some, e))
Chain-unique b p q (x ∷ xs) (y ∷ ys) e c d =
    let next : first_of xs 0 ≡ first_of ys 0 = sym c.0.next ∙ ap (λ z. word_at b z 1) e ∙ d.0.next in
    ap (λ z. z ∷ xs) e ∙ ap (λ z. y ∷ z) (Chain-unique b x y xs ys next c.1 d.1)

pub LinksFor-unique : (list : DtList) (b : Blocks) (xs ys : List ℕ) → LinksFor list b xs → LinksFor list b ys → xs ≡ ys
LinksFor-unique list b xs ys s t = Chain-unique b 0 0 xs ys (sym s.first ∙ t.first) s.chain t.chain

pub StandsFor-unique : (list : DtList) (b : Blocks) (xs ys : List ℕ) → StandsFor list b xs → StandsFor list b ys → xs ≡ ys
StandsFor-unique list b xs ys s t = LinksFor-unique list b xs ys s.links t.links

-- where a holder of it is
pub split_in : (list : DtList) (b : Blocks) (at : ℕ) (i : IsIn list b at) (xs : List ℕ) → StandsFor list b xs → Split xs at
split_in list b at i xs s = split xs at (rw (StandsFor-unique list b xs i.holders s i.stands) i.within)

-- what is known of a holder of it: its words, and those of its neighbours
pub record At (b : Blocks) (at : ℕ) : Type 0 where
  pub words : HasBytes b at 32
  pub previous_fits : word_at b at 0 < 2 ^ 32
  pub next_fits : word_at b at 1 < 2 ^ 32
  pub previous_words : (a : ℕ) → a ≡ word_at b at 0 → a ≢ 0 → HasBytes b a 32
  pub next_words : (a : ℕ) → a ≡ word_at b at 1 → a ≢ 0 → HasBytes b a 32

at_chain : (b : Blocks) (front : List ℕ) (at : ℕ) (rest : List ℕ) → Chain b 0 (front ++ at ∷ rest) 0 → At b at
at_chain b front at rest chain =
    let ls = Chain-front b 0 front (at ∷ rest) 0 chain in
    let c = Chain-rest b 0 front (at ∷ rest) 0 chain in
    record {
      words = fewer b at c.0.holder;
      previous_fits = rw c.0.previous (last_fits b front at ls);
      next_fits = rw c.0.next (first_fits b at rest c.1);
      previous_words = λ a e some. last_words b front at a ls (e ∙ c.0.previous) some;
      next_words = λ a e some. first_words b at rest a c.1 (e ∙ c.0.next) some;
    }

pub at_linked : (list : DtList) (b : Blocks) (at : ℕ) (xs : List ℕ) → LinksFor list b xs → contains xs at ≡ true → At b at
at_linked list b at xs l within =
    let p = split xs at within in
    at_chain b p.front at p.rest (subst (λ z. Chain b 0 z 0) p.whole l.chain)

pub at_in : (list : DtList) (b : Blocks) (at : ℕ) → IsIn list b at → At b at
at_in list b at i = at_linked list b at i.holders i.stands.links i.within

pub at_joined : (list : DtList) (b : Blocks) (at : ℕ) → IsJoined list b at → At b at
at_joined list b at i = at_linked list b at i.holders i.links i.within

-- one that may join it is none of its holders
pub apart_in : (list : DtList) (b : Blocks) (at : ℕ) (r : CanAdd list b at) (xs : List ℕ) → StandsFor list b xs → contains xs at ≡ false
apart_in list b at r xs s = rw (StandsFor-unique list b xs r.holders s r.stands) r.apart

-- the words of a holder between two parts of a chain
pub previous_word : (b : Blocks) (front : List ℕ) (at : ℕ) (rest : List ℕ) → Chain b 0 (front ++ at ∷ rest) 0 → word_at b at 0 ≡ last_of 0 front
previous_word b front at rest chain = let c = Chain-rest b 0 front (at ∷ rest) 0 chain in c.0.previous

pub next_word : (b : Blocks) (front : List ℕ) (at : ℕ) (rest : List ℕ) → Chain b 0 (front ++ at ∷ rest) 0 → word_at b at 1 ≡ first_of rest 0
next_word b front at rest chain = let c = Chain-rest b 0 front (at ∷ rest) 0 chain in c.0.next

-- they name its neighbours, if any
pub next-linked : (list : DtList) (b : Blocks) (at : ℕ) (xs : List ℕ) → LinksFor list b xs → contains xs at ≡ true → some_address (word_at b at 1) ≡ next_in at xs
next-linked list b at xs l within =
    let p = split xs at within in
    let chain : Chain b 0 (p.front ++ at ∷ p.rest) 0 = subst (λ z. Chain b 0 z 0) p.whole l.chain in
    let c = Chain-rest b 0 p.front (at ∷ p.rest) 0 chain in
    ap some_address c.0.next ∙ some-first p.rest (Chain-none b at p.rest 0 c.1) ∙ sym (next_in-split p.front at p.rest p.before) ∙ ap (next_in at) (sym p.whole)

pub previous-linked : (list : DtList) (b : Blocks) (at : ℕ) (xs : List ℕ) → LinksFor list b xs → contains xs at ≡ true → some_address (word_at b at 0) ≡ previous_in None at xs
previous-linked list b at xs l within =
    let p = split xs at within in
    let chain : Chain b 0 (p.front ++ at ∷ p.rest) 0 = subst (λ z. Chain b 0 z 0) p.whole l.chain in
    let c = Chain-rest b 0 p.front (at ∷ p.rest) 0 chain in
    let ls = Chain-front b 0 p.front (at ∷ p.rest) 0 chain in
    ap some_address c.0.previous ∙ some-last p.front (Chain-none b 0 p.front at ls) ∙ sym (previous_in-split p.front at p.rest p.before) ∙ ap (previous_in None at) (sym p.whole)

-- in a list too
pub next_found : (list : DtList) (b : Blocks) (at : ℕ) (i : IsIn list b at) (xs : List ℕ) → StandsFor list b xs → some_address (word_at b at 1) ≡ next_in at xs
next_found list b at i xs s = next-linked list b at xs s.links (rw (StandsFor-unique list b xs i.holders s i.stands) i.within)

pub previous_found : (list : DtList) (b : Blocks) (at : ℕ) (i : IsIn list b at) (xs : List ℕ) → StandsFor list b xs → some_address (word_at b at 0) ≡ previous_in None at xs
previous_found list b at i xs s = previous-linked list b at xs s.links (rw (StandsFor-unique list b xs i.holders s i.stands) i.within)

-- a change between equal lists
pub Turned-same : (at : ℕ) (xs xs' : List ℕ) (b : Blocks) (new : DtList) (b' : Blocks) (ys ys' : List ℕ) → xs ≡ xs' → ys ≡ ys' → Turned at xs b new b' ys → Turned at xs' b new b' ys'
Turned-same at xs xs' b new b' ys ys' e f t = subst (λ z. Turned at xs' b new b' z) f (subst (λ z. Turned at z b new b' ys) e t)
