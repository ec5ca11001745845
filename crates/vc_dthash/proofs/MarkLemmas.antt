-- A walk along a list that writes words of each holder.
use Rattle.vc_base.proofs.Common.{◌≡◌, ℕ, ◌+◌, ◌^◌, ◌<◌, ◌≤◌, Bool, true, false, ◌≢◌, List, [], ◌∷◌, ◌++◌, length, All, sym, refl, ap, ◌∙◌, subst, inl, inr, true≢false, append_assoc, append-nil, arith, length-append, eqb_tells, All-cons, All-nil, Blocks, HasBytes, WordsWritten, word_at, KeepsBut, contains, first_of}
use Rattle.vc_base.proofs.Members.{apart-cons, within-head, within-tail, within-rest, differs}
use Rattle.vc_dtlist.specs.declared.dt_list.DtList.{DtList}
use Rattle.vc_dtlist.specs.Linked.{Chain, LinksFor}
use Rattle.vc_dtlist.proofs.AddressLemmas.{LinksFor-holders}
use Rattle.vc_dtlist.proofs.ChainLemmas.{Chain-rest}
use Rattle.vc_dtlist.proofs.HolderLemmas.{apart-append}
use Rattle.vc_dtlist.proofs.KeptLemmas.{KeepsBut-none, LinksFor-kept}
use Rattle.vc_dtlist.proofs.TurnLemmas.{fewer, first_fits, next_word}
use Rattle.vc_dtlist.proofs.WordLemmas.{word-other_block}
use Rattle.vc_dthash.specs.ChainWrites.{Marked}

-- so many holders were written, and the next one is at that address
pub record Marking (P : Blocks → ℕ → Type 0) (b0 b : Blocks) (holders : List ℕ) (passed at : ℕ) : Type 0 where
  pub front : List ℕ
  pub rest : List ℕ
  pub whole : holders ≡ front ++ rest
  pub count : length front ≡ passed
  pub next : at ≡ first_of rest 0
  pub marks : (a : ℕ) → contains front a ≡ true → P b a
  pub links : (a k : ℕ) → k < 2 → word_at b a k ≡ word_at b0 a k
  pub keeps : KeepsBut holders b0 b

pub Marking-start : (P : Blocks → ℕ → Type 0) (list : DtList) (b : Blocks) (xs : List ℕ) → LinksFor list b xs → Marking P b b xs 0 list.first.0
Marking-start P list b xs l = record {
  front = [];
  rest = xs;
  whole = refl;
  count = refl;
  next = l.first;
  marks = λ a h. absurd (true≢false (sym h));
  links = λ a k h. refl;
  keeps = KeepsBut-none xs b;
}

-- the next one
pub record Going (b0 b : Blocks) (holders front rest : List ℕ) (at : ℕ) : Type 0 where
  pub behind : List ℕ
  pub whole : holders ≡ front ++ at ∷ behind
  pub within : contains holders at ≡ true
  pub words : HasBytes b at 32
  pub told : word_at b0 at 1 ≡ first_of behind 0
  pub fits : word_at b0 at 1 < 2 ^ 32

going_by : (list : DtList) (b0 b : Blocks) (xs front rest : List ℕ) (at : ℕ) → LinksFor list b0 xs → xs ≡ front ++ rest → at ≡ first_of rest 0 → KeepsBut xs b0 b → 1 ≤ length rest → Going b0 b xs front rest at
going_by list b0 b xs front [] at l whole e k h = absurd (omega (arith, h))
going_by list b0 b xs front (y ∷ ys) at l whole e k h =
    let split : xs ≡ front ++ at ∷ ys = whole ∙ ap (λ z. front ++ z ∷ ys) (sym e) in
    let within : contains xs at ≡ true = subst (λ z. contains z at ≡ true) (sym split) (within-rest front (at ∷ ys) at (within-head at ys)) in
    let chain : Chain b0 0 (front ++ at ∷ ys) 0 = subst (λ z. Chain b0 0 z 0) split l.chain in
    let holder = fewer b0 at ((LinksFor-holders list b0 xs l).there at within) in
    let tail = (Chain-rest b0 0 front (at ∷ ys) 0 chain).1 in
    let told = next_word b0 front at ys chain in
    let fits = first_fits b0 at ys tail in
    record {
      behind = ys;
      whole = split;
      within = within;
      words = record { there = k.there at ∙ holder.there; enough = rw (k.sizes at) holder.enough };
      told = told;
      fits = omega (arith, told, fits);
    }

pub Marking-going : {P : Blocks → ℕ → Type 0} {list : DtList} {b0 b : Blocks} {xs : List ℕ} {passed at : ℕ} → LinksFor list b0 xs → (w : Marking P b0 b xs passed at) → passed < length xs → Going b0 b xs w.front w.rest at
Marking-going {list = list} {b0 = b0} {b = b} {xs = xs} {at = at} l w h =
    going_by list b0 b xs w.front w.rest at l w.whole w.next w.keeps (omega (arith, h, w.count, ap length w.whole ∙ length-append w.front w.rest))

-- it was written: its links stay, and whatever holds of others still does
last_of_two : (front : List ℕ) (at a : ℕ) (t : Bool) → contains front a ≡ t → a ≢ at → contains (front ++ at ∷ []) a ≡ true → contains front a ≡ true
last_of_two front at a true e ne h = e
last_of_two front at a false e ne h = absurd (true≢false (sym h ∙ apart-append front (at ∷ []) a e (apart-cons at [] a (λ q. ne (sym q)) refl)))

link_by : (b0 b b' : Blocks) (at : ℕ) → WordsWritten b b' at → ((k : ℕ) → k < 2 → word_at b' at k ≡ word_at b at k) → ((a k : ℕ) → k < 2 → word_at b a k ≡ word_at b0 a k) → (a k : ℕ) → k < 2 → word_at b' a k ≡ word_at b0 a k
link_by b0 b b' at w own links a k h = elim (eqb_tells a at) as (λ _. word_at b' a k ≡ word_at b0 a k) [
  | inl same ↦ subst (λ z. word_at b' z k ≡ word_at b0 z k) (sym same.1) (own k h ∙ links at k h)
  | inr apart ↦ word-other_block b b' at a k w apart.1 ∙ links a k h
]

pub Marking-next : (P : Blocks → ℕ → Type 0) (list : DtList) (b0 b b' : Blocks) (xs : List ℕ) (passed at n : ℕ) → ((a : ℕ) → b' a ≡ b a → P b a → P b' a) → LinksFor list b0 xs → Marking P b0 b xs passed at → passed < length xs → WordsWritten b b' at → ((k : ℕ) → k < 2 → word_at b' at k ≡ word_at b at k) → P b' at → n ≡ word_at b' at 1 → Marking P b0 b' xs (passed + 1) n
Marking-next P list b0 b b' xs passed at n stays l w h written own mark e =
    let go = Marking-going l w h in
    let links = link_by b0 b b' at written own w.links in
    record {
      front = w.front ++ at ∷ [];
      rest = go.behind;
      whole = go.whole ∙ sym (append_assoc w.front (at ∷ []) go.behind);
      count = length-append w.front (at ∷ []) ∙ omega (arith, w.count);
      next = e ∙ (links at 1 (omega arith) ∙ go.told);
      marks = λ a k. elim (eqb_tells a at) as (λ _. P b' a) [
        | inl same ↦ subst (P b') (sym same.1) mark
        | inr apart ↦ stays a (written.others a apart.1) (w.marks a (last_of_two w.front at a (contains w.front a) refl apart.1 k))
      ];
      links = links;
      keeps = record {
        there = λ a. written.there a ∙ w.keeps.there a;
        sizes = λ a. written.sizes a ∙ w.keeps.sizes a;
        bodies = λ a. written.bodies a ∙ w.keeps.bodies a;
        others = λ a k. written.others a (λ q. differs xs at a go.within k (sym q)) ∙ w.keeps.others a k;
      };
    }

-- all were written
none_behind : (front rest : List ℕ) → length rest ≡ 0 → front ++ rest ≡ front
none_behind front [] h = append-nil front
none_behind front (x ∷ xs) h = absurd (omega (arith, h))

pub Marking-end : (P : Blocks → ℕ → Type 0) (list : DtList) (b0 b : Blocks) (xs : List ℕ) (passed at : ℕ) → LinksFor list b0 xs → Marking P b0 b xs passed at → length xs ≤ passed → Marked P list xs b0 b
Marking-end P list b0 b xs passed at l w h =
    let all : xs ≡ w.front = w.whole ∙ none_behind w.front w.rest (omega (arith, h, w.count, ap length w.whole ∙ length-append w.front w.rest)) in
    record {
      links = LinksFor-kept list b0 b xs w.keeps.there w.keeps.sizes (λ a k _ few. w.links a k few) l;
      marks = λ a k. w.marks a (subst (λ z. contains z a ≡ true) all k);
      keeps = w.keeps;
    }

-- what holds of each member of a list holds of all
pub all-of : (P : ℕ → Type 0) (xs : List ℕ) → ((a : ℕ) → contains xs a ≡ true → P a) → All P xs
all-of P [] f = All-nil P
all-of P (x ∷ xs) f = All-cons P x xs (f x (within-head x xs)) (all-of P xs (λ a h. f a (within-tail x xs a h)))
