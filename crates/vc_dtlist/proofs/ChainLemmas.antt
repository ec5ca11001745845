-- Chains of holders: parts of them, and what a written word leaves of them.
use Rattle.vc_base.proofs.Common.{◌≡◌, ℕ, false, ◌≢◌, List, [], ◌∷◌, ◌++◌, refl, ◌∙◌, arith, Blocks, WordWritten, WordsWritten, AreDistinct, contains, first_of}
use Rattle.vc_base.specs.Holders.{last_of}
use Rattle.vc_base.proofs.Members.{apart-head, apart-tail, apart-cons}
use Rattle.vc_dtlist.specs.declared.dt_list.DtList.{DtList}
use Rattle.vc_dtlist.specs.Linked.{Chain, HasLinks, LinksFor}
use Rattle.vc_dtlist.proofs.WordLemmas.{HasBytes-written, word-other_block}
use Rattle.vc_dtlist.proofs.HolderLemmas.{last-differs, first_of-append}

-- the links of another block stay
pub HasLinks-other : (old new : Blocks) (a x p n : ℕ) → WordsWritten old new a → x ≢ a → HasLinks old x p n → HasLinks new x p n
HasLinks-other old new a x p n w ne node = record {
  address = node.address;
  holder = HasBytes-written old new a x 33 w node.holder;
  previous = word-other_block old new a x 0 w ne ∙ node.previous;
  next = word-other_block old new a x 1 w ne ∙ node.next;
}

-- those whose next word was written
pub HasLinks-next : (old new : Blocks) (x p n v : ℕ) → WordWritten old new x 1 v → HasLinks old x p n → HasLinks new x p v
HasLinks-next old new x p n v w node = record {
  address = node.address;
  holder = HasBytes-written old new x x 33 w.written node.holder;
  previous = w.other_words 0 (omega arith) ∙ node.previous;
  next = w.read node.holder.there;
}

-- or its previous word
pub HasLinks-previous : (old new : Blocks) (x p n v : ℕ) → WordWritten old new x 0 v → HasLinks old x p n → HasLinks new x v n
HasLinks-previous old new x p n v w node = record {
  address = node.address;
  holder = HasBytes-written old new x x 33 w.written node.holder;
  previous = w.read node.holder.there;
  next = w.other_words 1 (omega arith) ∙ node.next;
}

-- a chain stays where its holders aren't written
pub Chain-other : (old new : Blocks) (a p : ℕ) (xs : List ℕ) (n : ℕ) → WordsWritten old new a → contains xs a ≡ false → Chain old p xs n → Chain new p xs n
Chain-other old new a p [] n w h c = tt
Chain-other old new a p (x ∷ xs) n w h c =
    (HasLinks-other old new a x p (first_of xs n) w (apart-head x xs a h) c.0, Chain-other old new a x xs n w (apart-tail x xs a h) c.1)

-- and so do linked holders
pub LinksFor-other : (old new : Blocks) (a : ℕ) (list : DtList) (xs : List ℕ) → WordsWritten old new a → contains xs a ≡ false → LinksFor list old xs → LinksFor list new xs
LinksFor-other old new a list xs w h l = record {
  first = l.first;
  last = l.last;
  chain = Chain-other old new a 0 xs 0 w h l.chain;
  distinct = l.distinct;
}

-- with another behind its last holder
pub Chain-next : (old new : Blocks) (p x : ℕ) (xs : List ℕ) (n v : ℕ) → WordWritten old new (last_of x xs) 1 v → AreDistinct (x ∷ xs) → Chain old p (x ∷ xs) n → Chain new p (x ∷ xs) v
Chain-next old new p x [] n v w d c = (HasLinks-next old new x p n v w c.0, tt)
Chain-next old new p x (y ∷ ys) n v w d c =
    (HasLinks-other old new (last_of y ys) x p y w.written (last-differs x y ys d.0) c.0, Chain-next old new x y ys n v w d.1 c.1)

-- with another before its first
pub Chain-previous : (old new : Blocks) (p x : ℕ) (xs : List ℕ) (n v : ℕ) → WordWritten old new x 0 v → AreDistinct (x ∷ xs) → Chain old p (x ∷ xs) n → Chain new v (x ∷ xs) n
Chain-previous old new p x xs n v w d c =
    (HasLinks-previous old new x p (first_of xs n) v w c.0, Chain-other old new x x xs n w.written d.0 c.1)

-- two parts of a chain, and the chain of two parts
pub Chain-front : (b : Blocks) (p : ℕ) (xs ys : List ℕ) (n : ℕ) → Chain b p (xs ++ ys) n → Chain b p xs (first_of ys n)
Chain-front b p [] ys n c = tt
Chain-front b p (x ∷ xs) ys n c = (rw (← first_of-append xs ys n) c.0, Chain-front b x xs ys n c.1)

pub Chain-rest : (b : Blocks) (p : ℕ) (xs ys : List ℕ) (n : ℕ) → Chain b p (xs ++ ys) n → Chain b (last_of p xs) ys n
Chain-rest b p [] ys n c = c
Chain-rest b p (x ∷ xs) ys n c = Chain-rest b x xs ys n c.1

pub Chain-append : (b : Blocks) (p : ℕ) (xs ys : List ℕ) (n : ℕ) → Chain b p xs (first_of ys n) → Chain b (last_of p xs) ys n → Chain b p (xs ++ ys) n
Chain-append b p [] ys n c d = d
Chain-append b p (x ∷ xs) ys n c d = (rw (first_of-append xs ys n) c.0, Chain-append b x xs ys n c.1 d)

-- no holder is at no address
pub Chain-none : (b : Blocks) (p : ℕ) (xs : List ℕ) (n : ℕ) → Chain b p xs n → contains xs 0 ≡ false
Chain-none b p [] n c = refl
Chain-none b p (x ∷ xs) n c = apart-cons x xs 0 (λ e. absurd (omega (arith, c.0.address.some))) (Chain-none b x xs n c.1)
