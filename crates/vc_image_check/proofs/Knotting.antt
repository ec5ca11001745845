-- What is left of a set or bag from a holder on, and what its slots tell of it.
use Rattle.vc_base.proofs.Common.{◌≡◌, ◌≢◌, ℕ, zero, suc, ◌%◌, ◌<◌, ◌≤◌, ◌^◌, List, [], ◌∷◌, length, get_or, set, sym, refl, ap, ◌∙◌, subst, arith, inl, inr, eq-eqb, ne_eqb, cases_eq, cases_lt, get_or-set_same, get_or-set_other, length-set, first_of}
use Rattle.std.specs.List.{AllByRecursion}
use Rattle.std.proofs.lemmas.List.Elements.{All-from_recursion, recursion_from_All}
use Rattle.vc_base.specs.declared.addr.Addr.{Addr}
use Rattle.vc_base.specs.Cells.{Blocks, bytes_at, word_at}
use Rattle.vc_base.specs.Holders.{last_of}
use Rattle.vc_dtdisc.specs.Rules.{Rules}
use Rattle.vc_dthash.specs.Chained.{IsHashed, Leads, chain_of, hash_at}
use Rattle.vc_dtlist.specs.Linked.{Chain}
use Rattle.vc_dict.specs.Listed.{holders_from}
use Rattle.vc_image_check.specs.Lists.Chained.{IsKnot, IsSoundChain}
use Rattle.vc_image_check.proofs.Linking.{chain-distinct}

past : (xs : List ℕ) (k : ℕ) → length xs ≤ k → get_or xs k 0 ≡ zero
past [] k le = refl
past (x ∷ xs) zero le = absurd (omega (arith, le))
past (x ∷ xs) (suc k) le = past xs k (omega (arith, le))

abbrev Most : Blocks → ℕ → Type 0
Most blocks a = length (bytes_at blocks a) ≤ 1056

module _ (rules : Rules) (blocks : Blocks) (table slots last : ℕ) where
  abbrev hash : ℕ → ℕ
  hash a = hash_at rules blocks a

  -- each slot leads through those of these holders that belong to it
  abbrev pub Lead : List ℕ → List ℕ → Type 0
  Lead told xs = (k : ℕ) → k < slots → Leads blocks (get_or told k 0) (chain_of hash slots k xs) 0

  -- so many holders from one on are linked behind another one, up to the last, and the slots lead through them
  pub record Rest (told : List ℕ) (before at left : ℕ) : Type 0 where
    pub top : at ≡ first_of (holders_from blocks left at) 0
    pub end : last ≡ last_of before (holders_from blocks left at)
    pub chain : Chain blocks before (holders_from blocks left at) 0
    pub sizes : AllByRecursion (Most blocks) (holders_from blocks left at)
    pub apart : AllByRecursion (λ a. a ≢ table) (holders_from blocks left at)
    pub hashes : AllByRecursion (IsHashed rules blocks) (holders_from blocks left at)
    pub leads : Lead told (holders_from blocks left at)

  pub record Stepped (told : List ℕ) (before at left : ℕ) : Type 0 where
    pub knot : IsKnot rules blocks table before at
    pub expected : get_or told (hash at % slots) 0 ≡ at
    pub rest : Rest (set told (hash at % slots) (word_at blocks at 2)) at (word_at blocks at 1) left

  -- a holder belongs to one slot
  chain-here : (x k : ℕ) (xs : List ℕ) → hash x % slots ≡ k → chain_of hash slots k (x ∷ xs) ≡ x ∷ chain_of hash slots k xs
  chain-here x k xs e = rw (eq-eqb (hash x % slots) k e) refl

  chain-there : (x k : ℕ) (xs : List ℕ) → (hash x % slots ≡ k → ⊥) → chain_of hash slots k (x ∷ xs) ≡ chain_of hash slots k xs
  chain-there x k xs ne = rw (ne_eqb (hash x % slots) k ne) refl

  module _ (told : List ℕ) (long : length told ≡ slots) (some : 1 ≤ slots) (x : ℕ) (xs : List ℕ) where
    abbrev slot : ℕ
    slot = hash x % slots

    slot-low : slot < slots
    slot-low = omega (arith, some)

    abbrev told' : List ℕ
    told' = set told slot (word_at blocks x 2)

    told-here : get_or told' slot 0 ≡ word_at blocks x 2
    told-here = let low = slot-low in get_or-set_same told slot (word_at blocks x 2) 0 (omega (arith, low, long))

    pub lead-first : Lead told (x ∷ xs) → get_or told slot 0 ≡ x
    lead-first l = (subst (λ z. Leads blocks (get_or told slot 0) z 0) (chain-here x slot xs refl) (l slot slot-low)).0

    pub lead-rest : Lead told (x ∷ xs) → Lead told' xs
    lead-rest l k lt = elim (cases_eq k slot) as (λ _. Leads blocks (get_or told' k 0) (chain_of hash slots k xs) 0) [
      | inl same ↦
          subst (λ z. Leads blocks (get_or told' z 0) (chain_of hash slots z xs) 0) (sym same)
          (subst (λ z. Leads blocks z (chain_of hash slots slot xs) 0) (sym told-here)
          (subst (λ z. Leads blocks (get_or told slot 0) z 0) (chain-here x slot xs refl) (l slot slot-low)).1)
      | inr other ↦
          subst (λ z. Leads blocks z (chain_of hash slots k xs) 0) (sym (get_or-set_other told slot k (word_at blocks x 2) 0 other))
          (subst (λ z. Leads blocks (get_or told k 0) z 0) (chain-there x k xs (λ e. other (sym e))) (l k lt))
    ]

    pub lead-from : get_or told slot 0 ≡ x → Lead told' xs → Lead told (x ∷ xs)
    lead-from e l k lt = elim (cases_eq k slot) as (λ _. Leads blocks (get_or told k 0) (chain_of hash slots k (x ∷ xs)) 0) [
      | inl same ↦
          subst (λ z. Leads blocks (get_or told z 0) (chain_of hash slots z (x ∷ xs)) 0) (sym same)
          (subst (λ z. Leads blocks (get_or told slot 0) z 0) (sym (chain-here x slot xs refl))
          (e, subst (λ z. Leads blocks z (chain_of hash slots slot xs) 0) told-here (l slot slot-low)))
      | inr other ↦
          subst (λ z. Leads blocks (get_or told k 0) z 0) (sym (chain-there x k xs (λ e. other (sym e))))
          (subst (λ z. Leads blocks z (chain_of hash slots k xs) 0) (get_or-set_other told slot k (word_at blocks x 2) 0 other) (l k lt))
    ]

  small : (at n : ℕ) → word_at blocks at 1 ≡ first_of (holders_from blocks n (word_at blocks at 1)) 0 → Chain blocks at (holders_from blocks n (word_at blocks at 1)) 0 → word_at blocks at 1 < 2 ^ 32
  small at zero e c = omega (arith, e)
  small at (suc n) e c = c.0.address.fits

  pub step-to : (told : List ℕ) (before at n : ℕ) → length told ≡ slots → 1 ≤ slots → Rest told before at (suc n) → Stepped told before at n
  step-to told before at n long some r = record {
    knot = record {
      address = r.chain.0.address;
      holder = r.chain.0.holder;
      most = r.sizes.0;
      another = r.apart.0;
      previous = r.chain.0.previous;
      hashed = r.hashes.0;
      next = small at n r.chain.0.next r.chain.1;
    };
    expected = lead-first told long some at (holders_from blocks n (word_at blocks at 1)) r.leads;
    rest = record {
      top = r.chain.0.next;
      end = r.end;
      chain = r.chain.1;
      sizes = r.sizes.1;
      apart = r.apart.1;
      hashes = r.hashes.1;
      leads = lead-rest told long some at (holders_from blocks n (word_at blocks at 1)) r.leads;
    };
  }

  pub step-from : (told : List ℕ) (before at n : ℕ) → length told ≡ slots → 1 ≤ slots → Stepped told before at n → Rest told before at (suc n)
  step-from told before at n long some s = record {
    top = refl;
    end = s.rest.end;
    chain = (record { address = s.knot.address; holder = s.knot.holder; previous = s.knot.previous; next = s.rest.top }, s.rest.chain);
    sizes = (s.knot.most, s.rest.sizes);
    apart = (s.knot.another, s.rest.apart);
    hashes = (s.knot.hashed, s.rest.hashes);
    leads = lead-from told long some at (holders_from blocks n (word_at blocks at 1)) s.expected s.rest.leads;
  }

-- the whole is sound exactly where the rest is
pub record Walking (rules : Rules) (blocks : Blocks) (count table slots : ℕ) (first last : Addr) (told : List ℕ) (before at left : ℕ) : Type 0 where
  pub long : length told ≡ slots
  pub to : IsSoundChain rules blocks count table slots first last → Rest rules blocks table slots last.0 told before at left
  pub from : Rest rules blocks table slots last.0 told before at left → IsSoundChain rules blocks count table slots first last

module _ (rules : Rules) (blocks : Blocks) (count table slots : ℕ) (first last : Addr) where
  pub walking-start : (told : List ℕ) → length told ≡ slots → ((k : ℕ) → k < slots → get_or told k 0 ≡ word_at blocks table k) → Walking rules blocks count table slots first last told 0 first.0 count
  walking-start told long each = record {
    long = long;
    to = λ h. record {
      top = h.links.first;
      end = h.links.last;
      chain = h.links.chain;
      sizes = recursion_from_All (Most blocks) (holders_from blocks count first.0) h.sizes;
      apart = recursion_from_All (λ a. a ≢ table) (holders_from blocks count first.0) h.apart;
      hashes = recursion_from_All (IsHashed rules blocks) (holders_from blocks count first.0) h.hashes;
      leads = λ k lt. subst (λ z. Leads blocks z (chain_of (hash_at rules blocks) slots k (holders_from blocks count first.0)) 0) (sym (each k lt)) (h.chains k lt);
    };
    from = λ r. record {
      links = record { first = r.top; last = r.end; chain = r.chain; distinct = chain-distinct blocks (holders_from blocks count first.0) 0 r.chain };
      sizes = All-from_recursion (Most blocks) (holders_from blocks count first.0) r.sizes;
      apart = All-from_recursion (λ a. a ≢ table) (holders_from blocks count first.0) r.apart;
      hashes = All-from_recursion (IsHashed rules blocks) (holders_from blocks count first.0) r.hashes;
      chains = λ k lt. subst (λ z. Leads blocks z (chain_of (hash_at rules blocks) slots k (holders_from blocks count first.0)) 0) (each k lt) (r.leads k lt);
    };
  }

  module _ (some : 1 ≤ slots) (told : List ℕ) (before at left left' : ℕ) (e : left ≡ suc left') (w : Walking rules blocks count table slots first last told before at left) where
    stepped : IsSoundChain rules blocks count table slots first last → Stepped rules blocks table slots last.0 told before at left'
    stepped h = step-to rules blocks table slots last.0 told before at left' w.long some (subst (Rest rules blocks table slots last.0 told before at) e (w.to h))

    pub walking-not : (IsKnot rules blocks table before at → ⊥) → IsSoundChain rules blocks count table slots first last → ⊥
    walking-not never h = never (stepped h).knot

    pub walking-other : (k : ℕ) → k ≡ hash_at rules blocks at % slots → (get_or told k 0 ≡ at → ⊥) → IsSoundChain rules blocks count table slots first last → ⊥
    walking-other k is never h = never (ap (λ z. get_or told z 0) is ∙ (stepped h).expected)

    pub walking-next : (k v next : ℕ) → IsKnot rules blocks table before at → k ≡ hash_at rules blocks at % slots → get_or told k 0 ≡ at → v ≡ word_at blocks at 2 → next ≡ word_at blocks at 1
        → Walking rules blocks count table slots first last (set told k v) at next left'
    walking-next k v next knot is expected ev en = record {
      long = length-set told k v ∙ w.long;
      to = λ h. subst (λ z. Rest rules blocks table slots last.0 (set told k v) at z left') (sym en)
          (subst (λ z. Rest rules blocks table slots last.0 (set told z v) at (word_at blocks at 1) left') (sym is)
          (subst (λ z. Rest rules blocks table slots last.0 (set told (hash_at rules blocks at % slots) z) at (word_at blocks at 1) left') (sym ev) (stepped h).rest));
      from = λ r. w.from (subst (Rest rules blocks table slots last.0 told before at) (sym e)
          (step-from rules blocks table slots last.0 told before at left' w.long some (record {
            knot = knot;
            expected = ap (λ z. get_or told z 0) (sym is) ∙ expected;
            rest =
                subst (λ z. Rest rules blocks table slots last.0 (set told (hash_at rules blocks at % slots) z) at (word_at blocks at 1) left') ev
                (subst (λ z. Rest rules blocks table slots last.0 (set told z v) at (word_at blocks at 1) left') is
                (subst (λ z. Rest rules blocks table slots last.0 (set told k v) at z left') en r));
          })));
    }

  pub record AtEnd (told : List ℕ) (before at : ℕ) : Type 0 where
    pub top : at ≡ 0
    pub end : last.0 ≡ before
    pub none : (k : ℕ) → get_or told k 0 ≡ 0

  pub walking-end : (told : List ℕ) (before at left : ℕ) → left ≡ 0 → Walking rules blocks count table slots first last told before at left
      → (IsSoundChain rules blocks count table slots first last → AtEnd told before at) × (AtEnd told before at → IsSoundChain rules blocks count table slots first last)
  walking-end told before at left e w = (
    λ h.
        let r = subst (Rest rules blocks table slots last.0 told before at) e (w.to h) in
        record {
          top = r.top;
          end = r.end;
          none = λ k. elim (cases_lt k slots) as (λ _. get_or told k 0 ≡ 0) [
            | inl lt ↦ r.leads k lt
            | inr le ↦ past told k (let l = w.long in omega (arith, l, le))
          ];
        },
    λ z. w.from (subst (Rest rules blocks table slots last.0 told before at) (sym e) (record {
      top = z.top;
      end = z.end;
      chain = tt;
      sizes = tt;
      apart = tt;
      hashes = tt;
      leads = λ k lt. z.none k;
    })),
  )
