-- A list over blocks of which none of its holders changed, as those that a call on another list left.
use Rattle.vc_base.proofs.Common.{◌≡◌, ℕ, ◌<◌, true, false, List, [], ◌∷◌, length, is_some, All, unwrap_or, refl, ap, ◌∙◌, arith, All-cons, All-head, All-nil, All-tail, Blocks, HasBytes, bytes_at, word, word_at, KeepsBut, contains, first_of}
use Rattle.vc_base.proofs.Members.{within-head, within-tail}
use Rattle.vc_dtlist.specs.declared.dt_list.DtList.{DtList}
use Rattle.vc_dtlist.specs.TableWrites.{KeepsTables}
use Rattle.vc_dtlist.specs.Linked.{Chain, HasLinks, IsPlain, LinksFor, StandsFor}

-- the bytes of one block stay
pub HasBytes-same : (old new : Blocks) (a n : ℕ) → new a ≡ old a → HasBytes old a n → HasBytes new a n
HasBytes-same old new a n e h = record {
  there = ap is_some e ∙ h.there;
  enough = rw (ap (λ o. length (unwrap_or o [])) e) h.enough;
}

HasLinks-same : (old new : Blocks) (x p n : ℕ) → new x ≡ old x → HasLinks old x p n → HasLinks new x p n
HasLinks-same old new x p n e links = record {
  address = links.address;
  holder = HasBytes-same old new x 33 e links.holder;
  previous = ap (λ o. word 0 (unwrap_or o [])) e ∙ links.previous;
  next = ap (λ o. word 1 (unwrap_or o [])) e ∙ links.next;
}

pub Chain-same : (old new : Blocks) (p : ℕ) (xs : List ℕ) (n : ℕ) → ((a : ℕ) → contains xs a ≡ true → new a ≡ old a) → Chain old p xs n → Chain new p xs n
Chain-same old new p [] n e c = tt
Chain-same old new p (x ∷ xs) n e c =
    (HasLinks-same old new x p (first_of xs n) (e x (within-head x xs)) c.0, Chain-same old new x xs n (λ a h. e a (within-tail x xs a h)) c.1)

-- holders that stay are linked still, and plain still
pub LinksFor-same : (list : DtList) (old new : Blocks) (xs : List ℕ) → ((a : ℕ) → contains xs a ≡ true → new a ≡ old a) → LinksFor list old xs → LinksFor list new xs
LinksFor-same list old new xs e l = record {
  first = l.first;
  last = l.last;
  chain = Chain-same old new 0 xs 0 e l.chain;
  distinct = l.distinct;
}

-- so are those whose links stay alone
HasLinks-kept : (old new : Blocks) (x p n : ℕ) → is_some (new x) ≡ is_some (old x) → length (bytes_at new x) ≡ length (bytes_at old x) → word_at new x 0 ≡ word_at old x 0 → word_at new x 1 ≡ word_at old x 1 → HasLinks old x p n → HasLinks new x p n
HasLinks-kept old new x p n there size previous next links = record {
  address = links.address;
  holder = record { there = there ∙ links.holder.there; enough = rw size links.holder.enough };
  previous = previous ∙ links.previous;
  next = next ∙ links.next;
}

pub Chain-kept : (old new : Blocks) (p : ℕ) (xs : List ℕ) (n : ℕ) → ((a : ℕ) → is_some (new a) ≡ is_some (old a)) → ((a : ℕ) → length (bytes_at new a) ≡ length (bytes_at old a)) → ((a k : ℕ) → contains xs a ≡ true → k < 2 → word_at new a k ≡ word_at old a k) → Chain old p xs n → Chain new p xs n
Chain-kept old new p [] n there sizes words c = tt
Chain-kept old new p (x ∷ xs) n there sizes words c = (
  HasLinks-kept old new x p (first_of xs n) (there x) (sizes x) (words x 0 (within-head x xs) (omega arith)) (words x 1 (within-head x xs) (omega arith)) c.0,
  Chain-kept old new x xs n there sizes (λ a k h few. words a k (within-tail x xs a h) few) c.1,
)

pub LinksFor-kept : (list : DtList) (old new : Blocks) (xs : List ℕ) → ((a : ℕ) → is_some (new a) ≡ is_some (old a)) → ((a : ℕ) → length (bytes_at new a) ≡ length (bytes_at old a)) → ((a k : ℕ) → contains xs a ≡ true → k < 2 → word_at new a k ≡ word_at old a k) → LinksFor list old xs → LinksFor list new xs
LinksFor-kept list old new xs there sizes words l = record {
  first = l.first;
  last = l.last;
  chain = Chain-kept old new 0 xs 0 there sizes words l.chain;
  distinct = l.distinct;
}

IsPlain-same : (old new : Blocks) (x : ℕ) → new x ≡ old x → IsPlain old x → IsPlain new x
IsPlain-same old new x e p = record {
  third = ap (λ o. word 2 (unwrap_or o [])) e ∙ p.third;
  fourth = ap (λ o. word 3 (unwrap_or o [])) e ∙ p.fourth;
}

pub plain-same : (old new : Blocks) (xs : List ℕ) → ((a : ℕ) → contains xs a ≡ true → new a ≡ old a) → All (IsPlain old) xs → All (IsPlain new) xs
plain-same old new [] e p = All-nil (IsPlain new)
plain-same old new (x ∷ xs) e p =
    All-cons (IsPlain new) x xs (IsPlain-same old new x (e x (within-head x xs)) (All-head (IsPlain old) x xs p))
    (plain-same old new xs (λ a h. e a (within-tail x xs a h)) (All-tail (IsPlain old) x xs p))

-- a list whose holders stay stands for them still
pub StandsFor-same : (list : DtList) (old new : Blocks) (xs : List ℕ) → ((a : ℕ) → contains xs a ≡ true → new a ≡ old a) → StandsFor list old xs → StandsFor list new xs
StandsFor-same list old new xs e s = record { links = LinksFor-same list old new xs e s.links; plain = plain-same old new xs e s.plain }

-- so does one that is apart from a list on which a call worked
pub StandsFor-kept : (list : DtList) (old new : Blocks) (xs others : List ℕ) → KeepsBut others old new → ((a : ℕ) → contains xs a ≡ true → contains others a ≡ false) → StandsFor list old xs → StandsFor list new xs
StandsFor-kept list old new xs others k apart s = StandsFor-same list old new xs (λ a h. k.others a (apart a h)) s

-- what keeps all but the holders keeps all but them and tables
pub KeepsTables-but : (tables holders : List ℕ) (old new : Blocks) → KeepsBut holders old new → KeepsTables tables holders old new
KeepsTables-but tables holders old new k = record {
  there = k.there;
  sizes = k.sizes;
  bodies = λ a h. k.bodies a;
  others = λ a h j. k.others a j;
}

-- where nothing was done, all is kept
pub KeepsBut-none : (holders : List ℕ) (b : Blocks) → KeepsBut holders b b
KeepsBut-none holders b = record { there = λ a. refl; sizes = λ a. refl; bodies = λ a. refl; others = λ a h. refl }
