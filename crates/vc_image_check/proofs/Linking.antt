-- What is left of a list from a holder on.
use Rattle.vc_base.proofs.Common.{◌≡◌, ℕ, zero, suc, ◌<◌, ◌≤◌, ◌^◌, true, false, List, [], ◌∷◌, length, sym, refl, ap, ◌∙◌, subst, arith, inl, inr, true≢false, ne_eqb, cases_eq, AreDistinct, contains, first_of}
use Rattle.std.specs.List.{AllByRecursion}
use Rattle.std.proofs.lemmas.List.Elements.{All-from_recursion, recursion_from_All}
use Rattle.vc_base.specs.declared.addr.Addr.{Addr}
use Rattle.vc_base.specs.Cells.{Blocks, bytes_at, word_at}
use Rattle.vc_base.specs.Holders.{last_of}
use Rattle.vc_base.proofs.Members.{within-head, within-tail}
use Rattle.vc_dtlist.specs.Linked.{Chain, IsPlain}
use Rattle.vc_dict.specs.Listed.{holders_from}
use Rattle.vc_image_check.specs.Lists.Sound.{IsLink, IsSoundList}

-- holders, the last first, each of which tells of the one before it
abbrev Back : Blocks → List ℕ → Type 0
Back blocks [] = Unit {0}
Back blocks (x ∷ xs) = (word_at blocks x 0 ≡ first_of xs 0) × (1 ≤ x) × Back blocks xs

abbrev rest_of : List ℕ → List ℕ
rest_of [] = []
rest_of (x ∷ xs) = xs

-- one that tells of the last of them is none of them
apart-back : (blocks : Blocks) (s : ℕ) (ss : List ℕ) (x : ℕ) → contains ss s ≡ false → 1 ≤ s → word_at blocks x 0 ≡ s
    → (ts : List ℕ) → Back blocks ts → ((z : ℕ) → contains (rest_of ts) z ≡ true → contains ss z ≡ true) → contains ts x ≡ false
apart-back blocks s ss x d some w [] b sub = refl
apart-back blocks s ss x d some w (t ∷ ts) b sub = elim (cases_eq t x) as (λ _. contains (t ∷ ts) x ≡ false) [
  | inl same ↦ absurd (by ts (λ z h. sub z h) (sym w ∙ ap (λ z. word_at blocks z 0) (sym same) ∙ b.0))
  | inr other ↦ rw (ne_eqb t x other) (apart-back blocks s ss x d some w ts b.2 (λ z h. sub z (deeper ts z h)))
]
  where
    by : (us : List ℕ) → ((z : ℕ) → contains us z ≡ true → contains ss z ≡ true) → s ≡ first_of us 0 → ⊥
    by [] inc e = omega (arith, e, some)
    by (u ∷ us) inc e = true≢false (sym (inc s (subst (λ z. contains (z ∷ us) s ≡ true) e (within-head s us))) ∙ d)

    deeper : (us : List ℕ) (z : ℕ) → contains (rest_of us) z ≡ true → contains us z ≡ true
    deeper [] z h = h
    deeper (u ∷ us) z h = within-tail u us z h

apart-seen : (blocks : Blocks) (seen : List ℕ) (x : ℕ) → Back blocks seen → AreDistinct seen → word_at blocks x 0 ≡ first_of seen 0 → contains seen x ≡ false
apart-seen blocks [] x b d w = refl
apart-seen blocks (s ∷ ss) x b d w = apart-back blocks s ss x d.0 b.1 w (s ∷ ss) b (λ z h. h)

record Apart (seen xs : List ℕ) : Type 0 where
  distinct : AreDistinct xs
  apart : (z : ℕ) → contains seen z ≡ true → contains xs z ≡ false

-- holders that are linked are distinct
chain-apart : (blocks : Blocks) (seen xs : List ℕ) (behind : ℕ) → Chain blocks (first_of seen 0) xs behind → Back blocks seen → AreDistinct seen → Apart seen xs
chain-apart blocks seen [] behind c b d = record { distinct = tt; apart = λ z h. refl }
chain-apart blocks seen (x ∷ xs) behind c b d =
    let new : contains seen x ≡ false = apart-seen blocks seen x b d c.0.previous in
    let r : Apart (x ∷ seen) xs = chain-apart blocks (x ∷ seen) xs behind c.1 (c.0.previous, c.0.address.some, b) (new, d) in
    record {
      distinct = (r.apart x (within-head x seen), r.distinct);
      apart = λ z h. rw (ne_eqb x z (λ e. true≢false (sym h ∙ ap (contains seen) (sym e) ∙ new))) (r.apart z (within-tail x seen z h));
    }

pub chain-distinct : (blocks : Blocks) (xs : List ℕ) (behind : ℕ) → Chain blocks 0 xs behind → AreDistinct xs
chain-distinct blocks xs behind c = (chain-apart blocks [] xs behind c tt tt).distinct

abbrev Most : Blocks → ℕ → Type 0
Most blocks a = length (bytes_at blocks a) ≤ 1056

-- so many holders from one on are linked behind another one, up to the last
pub record Rest (blocks : Blocks) (last before at left : ℕ) : Type 0 where
  pub top : at ≡ first_of (holders_from blocks left at) 0
  pub end : last ≡ last_of before (holders_from blocks left at)
  pub chain : Chain blocks before (holders_from blocks left at) 0
  pub plain : AllByRecursion (IsPlain blocks) (holders_from blocks left at)
  pub sizes : AllByRecursion (Most blocks) (holders_from blocks left at)

-- one of them, and those behind it
pub record Stepped (blocks : Blocks) (last before at left : ℕ) : Type 0 where
  pub link : IsLink blocks before at
  pub rest : Rest blocks last at (word_at blocks at 1) left

small : (blocks : Blocks) (at n : ℕ) → word_at blocks at 1 ≡ first_of (holders_from blocks n (word_at blocks at 1)) 0 → Chain blocks at (holders_from blocks n (word_at blocks at 1)) 0 → word_at blocks at 1 < 2 ^ 32
small blocks at zero e c = omega (arith, e)
small blocks at (suc n) e c = c.0.address.fits

step-to : (blocks : Blocks) (last before at n : ℕ) → Rest blocks last before at (suc n) → Stepped blocks last before at n
step-to blocks last before at n r = record {
  link = record {
    address = r.chain.0.address;
    holder = r.chain.0.holder;
    most = r.sizes.0;
    previous = r.chain.0.previous;
    plain = r.plain.0;
    next = small blocks at n r.chain.0.next r.chain.1;
  };
  rest = record { top = r.chain.0.next; end = r.end; chain = r.chain.1; plain = r.plain.1; sizes = r.sizes.1 };
}

step-from : (blocks : Blocks) (last before at n : ℕ) → Stepped blocks last before at n → Rest blocks last before at (suc n)
step-from blocks last before at n s = record {
  top = refl;
  end = s.rest.end;
  chain = (record { address = s.link.address; holder = s.link.holder; previous = s.link.previous; next = s.rest.top }, s.rest.chain);
  plain = (s.link.plain, s.rest.plain);
  sizes = (s.link.most, s.rest.sizes);
}

-- the whole is sound exactly where the rest is
pub record Walking (blocks : Blocks) (count : ℕ) (first last : Addr) (before at left : ℕ) : Type 0 where
  pub to : IsSoundList blocks count first last → Rest blocks last.0 before at left
  pub from : Rest blocks last.0 before at left → IsSoundList blocks count first last

pub walking-start : (blocks : Blocks) (count : ℕ) (first last : Addr) → Walking blocks count first last 0 first.0 count
walking-start blocks count first last = record {
  to = λ h. record {
    top = h.stands.links.first;
    end = h.stands.links.last;
    chain = h.stands.links.chain;
    plain = recursion_from_All (IsPlain blocks) (holders_from blocks count first.0) h.stands.plain;
    sizes = recursion_from_All (Most blocks) (holders_from blocks count first.0) h.sizes;
  };
  from = λ r. record {
    stands = record {
      links = record { first = r.top; last = r.end; chain = r.chain; distinct = chain-distinct blocks (holders_from blocks count first.0) 0 r.chain };
      plain = All-from_recursion (IsPlain blocks) (holders_from blocks count first.0) r.plain;
    };
    sizes = All-from_recursion (Most blocks) (holders_from blocks count first.0) r.sizes;
  };
}

pub walking-next : (blocks : Blocks) (count : ℕ) (first last : Addr) (before at left left' next : ℕ) → left ≡ suc left' → IsLink blocks before at → word_at blocks at 1 ≡ next
    → Walking blocks count first last before at left → Walking blocks count first last at next left'
walking-next blocks count first last before at left left' next e link n w = record {
  to = λ h. subst (λ z. Rest blocks last.0 at z left') n (step-to blocks last.0 before at left' (subst (Rest blocks last.0 before at) e (w.to h))).rest;
  from = λ r. w.from (subst (Rest blocks last.0 before at) (sym e) (step-from blocks last.0 before at left' (record { link = link; rest = subst (λ z. Rest blocks last.0 at z left') (sym n) r })));
}

pub walking-not : (blocks : Blocks) (count : ℕ) (first last : Addr) (before at left left' : ℕ) → left ≡ suc left' → (IsLink blocks before at → ⊥)
    → Walking blocks count first last before at left → IsSoundList blocks count first last → ⊥
walking-not blocks count first last before at left left' e never w h = never (step-to blocks last.0 before at left' (subst (Rest blocks last.0 before at) e (w.to h))).link

pub walking-end : (blocks : Blocks) (count : ℕ) (first last : Addr) (before at left : ℕ) → left ≡ 0 → Walking blocks count first last before at left
    → (IsSoundList blocks count first last → (at ≡ 0) × (before ≡ last.0)) × (at ≡ 0 → before ≡ last.0 → IsSoundList blocks count first last)
walking-end blocks count first last before at left e w = (
  λ h. let r = subst (Rest blocks last.0 before at) e (w.to h) in (r.top, sym r.end),
  λ z f. w.from (subst (Rest blocks last.0 before at) (sym e) (record { top = z; end = sym f; chain = tt; plain = tt; sizes = tt })),
)
