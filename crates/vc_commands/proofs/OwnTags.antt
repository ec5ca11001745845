-- Blocks whose tags are their own, and a walk over them that puts the place of each at its tag.
use Rattle.vc_base.proofs.Common.{◌≡◌, ℕ, ◌≤◌, Bool, true, false, cond, not, ◌&&◌, ◌||◌, ltb, ◌≢◌, ◌⊎◌, List, [], ◌∷◌, length, AllPairs, is_some, nat_lt, nat_le, ◌==◌, Some, None, Option, option_map, filter, find, sym, refl, ap, ◌∙◌, subst, inl, inr, ⊎_elim, arith, nat_tests, eq-eqb, eqb-true, and_from, and_parts, or_right, cases_Bool, cases_eq, false≢true, none-some, same_Some, AllByRecursion, list_any, place_of, Block, address_of, HaveOwnPlaces, find_block, by_address, next_block}
use Rattle.vc_base.specs.declared.addr.Addr.{Addr}
use Rattle.vc_model.specs.Order.{put_by, sorted_by}
use Rattle.vc_model.proofs.Pairs.{AllPairs-head, AllPairs-tail, all-recursion}
use Rattle.vc_model.proofs.Places.{Among, among-above, among-all, among-find, found-there}
use Rattle.vc_model.proofs.Sorting.{is_above}
use Rattle.vc_commands.specs.Blocks.{label_limit}
use Rattle.vc_commands.specs.Tagged.{ArePlaces, PutsPlace, has_tag, have_own_tags, is_own_tag, is_vacant, place_of_tag}
use Rattle.vc_commands.proofs.Listing.{FromSome, blocks-next, from_some}
use Rattle.vc_commands.proofs.Lists.{Passes, found-any}
use Rattle.vc_commands.proofs.Names.{zero-or}
use Rattle.vc_commands.proofs.Touching.{le-within}
use Rattle.vc_audit.proofs.DebugChecks.{above as blocks_above}

-- what holds of each item, and a test that one passes, or none does
module _ {A : Type 0} where
  pub all-among : (P : A → Type 0) (xs : List A) → ((x : A) → Among x xs → P x) → AllByRecursion P xs
  all-among P [] each = tt
  all-among P (x ∷ xs) each = (each x (inl refl), all-among P xs (λ y m. each y (inr m)))

  pub any-among : (test : A → Bool) (x : A) (xs : List A) → Among x xs → test x ≡ true → list_any test xs ≡ true
  any-among test x [] m e = absurd m
  any-among test x (y ∷ ys) m e =
      ⊎_elim
      (λ same. ap (λ v. v || list_any test ys) (ap test same ∙ e))
      (λ rest. or_right (test y) (list_any test ys) (any-among test x ys rest e))
      m

  pub any-none : (test : A → Bool) (xs : List A) → ((x : A) → Among x xs → test x ≡ false) → list_any test xs ≡ false
  any-none test [] none = refl
  any-none test (y ∷ ys) none = ap (λ v. v || list_any test ys) (none y (inl refl)) ∙ any-none test ys (λ x m. none x (inr m))

  pub find-none : (test : A → Bool) (xs : List A) → ((x : A) → Among x xs → test x ≡ false) → find test xs ≡ None
  find-none test [] none = refl
  find-none test (y ∷ ys) none = ap (λ v. cond v (Some y) (find test ys)) (none y (inl refl)) ∙ find-none test ys (λ x m. none x (inr m))

  pub found-among : (test : A → Bool) (x : A) (xs : List A) → Among x xs → test x ≡ true → Passes test xs
  found-among test x xs m e = found-any test xs (any-among test x xs m e)

  among-kept : (test : A → Bool) (x : A) (xs : List A) → Among x xs → test x ≡ true → Among x (filter test xs)
  among-kept test x [] m e = m
  among-kept test x (y ∷ ys) m e =
      ⊎_elim
      (λ same. subst (λ v. Among x (cond v (y ∷ filter test ys) (filter test ys))) (sym (ap test same ∙ e)) (inl same))
      (λ rest.
      ⊎_elim
      (λ t. subst (λ v. Among x (cond v (y ∷ filter test ys) (filter test ys))) (sym t) (inr (among-kept test x ys rest e)))
      (λ t. subst (λ v. Among x (cond v (y ∷ filter test ys) (filter test ys))) (sym t) (among-kept test x ys rest e))
      (cases_Bool (test y)))
      m

  kept-passes : (test : A → Bool) (x : A) (xs : List A) → Among x (filter test xs) → test x ≡ true
  kept-passes test x [] m = absurd m
  kept-passes test x (y ∷ ys) m =
      ⊎_elim
      (λ t. ⊎_elim (λ same. sym (ap test same) ∙ t) (λ rest. kept-passes test x ys rest) (subst (λ v. Among x (cond v (y ∷ filter test ys) (filter test ys))) t m))
      (λ t. kept-passes test x ys (subst (λ v. Among x (cond v (y ∷ filter test ys) (filter test ys))) t m))
      (cases_Bool (test y))

  among-put : (key : A → ℕ) (x z : A) (ys : List A) → Among z (x ∷ ys) → Among z (put_by key x ys)
  among-put key x z [] m = m
  among-put key x z (y ∷ ys) m =
      ⊎_elim
      (λ t. subst (λ v. Among z (cond v (x ∷ y ∷ ys) (y ∷ put_by key x ys))) (sym t) m)
      (λ t.
      subst (λ v. Among z (cond v (x ∷ y ∷ ys) (y ∷ put_by key x ys))) (sym t)
      (⊎_elim
      (λ here. inr (among-put key x z ys (inl here)))
      (λ rest. ⊎_elim (λ at. inl at) (λ later. inr (among-put key x z ys (inr later))) rest)
      m))
      (cases_Bool (ltb (key x) (key y)))

  among-sorted : (key : A → ℕ) (z : A) (xs : List A) → Among z xs → Among z (sorted_by key xs)
  among-sorted key z [] m = m
  among-sorted key z (x ∷ xs) m =
      among-put key x z (sorted_by key xs) (⊎_elim (λ here. inl here) (λ rest. inr (among-sorted key z xs rest)) m)

-- a test of two numbers, and what it tells
pub le-from : (a b : ℕ) → nat_le a b ≡ true → a ≤ b
le-from a b e = grind (arith, nat_tests, e)

not-from : (v : Bool) → not v ≡ true → v ≡ false
not-from true e = absurd (false≢true e)
not-from false e = refl

pub some-tag : (tag : ℕ) → 1 ≤ tag → (tag == 0) ≡ false
some-tag tag first = grind (arith, nat_tests, first)

no-tag : (tag : ℕ) → tag ≡ 0 → (tag == 0) ≡ true
no-tag tag zero_is = grind (arith, nat_tests, zero_is)

-- a tag that is a block's own
own-parts : (tag : ℕ) (cs : List (Block ℕ)) → 1 ≤ tag → is_own_tag tag cs ≡ true → (tag ≤ label_limit) × (list_any (has_tag tag) cs ≡ false)
own-parts tag cs first e =
    let both = and_parts (nat_le tag label_limit) (not (list_any (has_tag tag) cs)) (sym (ap (λ v. v || (nat_le tag label_limit && not (list_any (has_tag tag) cs))) (some-tag tag first)) ∙ e) in
    (le-from tag label_limit both.0, not-from (list_any (has_tag tag) cs) both.1)

pub no-other : (d c : Block ℕ) (ds : List (Block ℕ)) → is_own_tag d.label ds ≡ true → 1 ≤ d.label → Among c ds → c.label ≡ d.label → ⊥
no-other d c ds own first m same =
    false≢true (sym (own-parts d.label ds first own).1 ∙ any-among (has_tag d.label) c ds m (eq-eqb c.label d.label same))

pub own-both : (b : Block ℕ) (bs : List (Block ℕ)) → have_own_tags (b ∷ bs) ≡ true → (is_own_tag b.label bs ≡ true) × (have_own_tags bs ≡ true)
own-both b bs own = and_parts (is_own_tag b.label bs) (have_own_tags bs) own

-- blocks of one tag are one
pub own-apart : (bs : List (Block ℕ)) (b c : Block ℕ) → have_own_tags bs ≡ true → Among b bs → Among c bs → 1 ≤ b.label → b.label ≡ c.label → b ≡ c
own-apart [] b c own mb mc first same = absurd mb
own-apart (d ∷ ds) b c own mb mc first same =
    let both = own-both d ds own in
    ⊎_elim
    (λ db.
    ⊎_elim
    (λ dc. sym db ∙ dc)
    (λ rc. absurd (no-other d c ds both.0 (subst (λ (x : Block ℕ). 1 ≤ x.label) (sym db) first) rc (sym same ∙ ap (λ (x : Block ℕ). x.label) (sym db))))
    mc)
    (λ rb.
    ⊎_elim
    (λ dc. absurd (no-other d b ds both.0 (subst (λ n. 1 ≤ n) (same ∙ ap (λ (x : Block ℕ). x.label) (sym dc)) first) rb (same ∙ ap (λ (x : Block ℕ). x.label) (sym dc))))
    (λ rc. own-apart ds b c both.1 rb rc first same)
    mc)
    mb

own-most : (bs : List (Block ℕ)) (b : Block ℕ) → have_own_tags bs ≡ true → Among b bs → 1 ≤ b.label → b.label ≤ label_limit
own-most [] b own m first = absurd m
own-most (d ∷ ds) b own m first =
    let both = own-both d ds own in
    ⊎_elim
    (λ db. subst (λ (x : Block ℕ). x.label ≤ label_limit) db (own-parts d.label ds (subst (λ (x : Block ℕ). 1 ≤ x.label) (sym db) first) both.0).0)
    (λ rest. own-most ds b both.1 rest first)
    m

-- a block stands at its tag
pub record Has (places : List (Option Addr)) (b : Block ℕ) : Type 0 where
  pub most : b.label ≤ label_limit
  pub at : option_map (λ (a : Addr). a.0) (place_of_tag places b.label) ≡ Some (address_of b)

-- where each does, each tag is a block's own
own-all : (places : List (Option Addr)) (bs : List (Block ℕ)) → AllPairs (λ x y. address_of x ≢ address_of y) bs → ((b : Block ℕ) → Among b bs → 1 ≤ b.label → Has places b) → have_own_tags bs ≡ true
own-all places [] pairs has = refl
own-all places (b ∷ bs) pairs has =
    let R : Block ℕ → Block ℕ → Type 0 = λ x y. address_of x ≢ address_of y in
    let fits : Bool = nat_le b.label label_limit && not (list_any (has_tag b.label) bs) in
    let head : is_own_tag b.label bs ≡ true =
    ⊎_elim
    (λ none. ap (λ v. v || fits) (no-tag b.label none))
    (λ first.
    let here = has b (inl refl) first in
    or_right (b.label == 0) fits
    (and_from (nat_le b.label label_limit) (not (list_any (has_tag b.label) bs)) (le-within b.label label_limit here.most)
    (ap not (any-none (has_tag b.label) bs (λ c m.
    ⊎_elim
    (λ t.
    let same : c.label ≡ b.label = eqb-true c.label b.label t in
    let there = has c (inr m) (subst (λ n. 1 ≤ n) (sym same) first) in
    let one : address_of b ≡ address_of c = same_Some (address_of b) (address_of c) (sym here.at ∙ (ap (λ n. option_map (λ (a : Addr). a.0) (place_of_tag places n)) (sym same) ∙ there.at)) in
    absurd (among-all (λ y. address_of b ≢ address_of y) c bs m (all-recursion (R b) bs (AllPairs-head R b bs pairs)) one))
    (λ t. t)
    (cases_Bool (has_tag b.label c)))))))
    (zero-or b.label) in
    and_from (is_own_tag b.label bs) (have_own_tags bs) head (own-all places bs (AllPairs-tail R b bs pairs) (λ c m. has c (inr m)))

-- a block of a tag that a walk has passed
pub record Stands (bs : List (Block ℕ)) (after tag a : ℕ) : Type 0 where
  pub block : Block ℕ
  pub among : Among block bs
  pub label : block.label ≡ tag
  pub at : address_of block ≡ a
  pub passed : is_above address_of after block ≡ false

-- the blocks up to an address stand at their tags, and nothing else does
pub record Walked (bs : List (Block ℕ)) (after : ℕ) (places : List (Option Addr)) : Type 0 where
  pub most : length places ≤ label_limit
  pub past : (c : Block ℕ) → Among c bs → is_above address_of after c ≡ false → 1 ≤ c.label → Has places c
  pub from : (tag : ℕ) (a : Addr) → 1 ≤ tag → place_of_tag places tag ≡ Some a → Stands bs after tag a.0

-- the block that is next
pub record NextTagged (bs : List (Block ℕ)) (after a tag : ℕ) : Type 0 where
  pub it : Block ℕ
  pub row : blocks_above after bs ≡ it ∷ blocks_above a bs
  pub among : Among it bs
  pub at : address_of it ≡ a
  pub label : it.label ≡ tag
  pub above : is_above address_of after it ≡ true

pub next-tagged : (bs : List (Block ℕ)) (after a tag : ℕ) → HaveOwnPlaces bs → option_map address_of (next_block after bs) ≡ Some a → option_map (λ b. b.label) (find_block (place_of a) bs) ≡ Some tag → NextTagged bs after a tag
next-tagged bs after a tag places next tagged =
    let f : FromSome address_of (next_block after bs) a = from_some address_of (next_block after bs) a next in
    let b = f.from in
    let among = among-above address_of after bs b f.was in
    let found : find_block (place_of a) bs ≡ Some b = found-there bs b a places among f.to in
    let row = blocks-next after bs b a places f.was f.to in
    record {
      it = b;
      row = row;
      among = among;
      at = f.to;
      label = same_Some b.label tag (sym (ap (option_map (λ c. c.label)) found) ∙ tagged);
      above = kept-passes (is_above address_of after) b (by_address bs) (subst (λ cs. Among b cs) (sym row) (inl refl));
    }

above-row : (bs : List (Block ℕ)) (after : ℕ) (c : Block ℕ) → Among c bs → is_above address_of after c ≡ true → Among c (blocks_above after bs)
above-row bs after c m above = among-kept (is_above address_of after) c (by_address bs) (among-sorted address_of c bs m) above

pub none-walked : (bs : List (Block ℕ)) → HaveOwnPlaces bs → Walked bs 0 []
none-walked bs places =
    record {
      most = omega arith;
      past = λ c m below first.
          let numbered : 1 ≤ c.seg = among-all (λ b. 1 ≤ b.seg) c bs m (all-recursion (λ b. 1 ≤ b.seg) bs places.first) in
          absurd (none c numbered below);
      from = λ tag a first placed. absurd (none-some a placed);
    }
  where
    none : (c : Block ℕ) → 1 ≤ c.seg → is_above address_of 0 c ≡ false → ⊥
    none c numbered below = let some : is_above address_of 0 c ≡ true = above (address_of c) (omega (arith, numbered)) in false≢true (sym below ∙ some)
      where
        above : (n : ℕ) → 1 ≤ n → nat_lt 0 n ≡ true
        above n first = grind (arith, nat_tests, first)

vacant-parts : (places : List (Option Addr)) (tag : ℕ) → 1 ≤ tag → is_vacant places tag ≡ true → (tag ≤ label_limit) × (is_some (place_of_tag places tag) ≡ false)
vacant-parts places tag first e =
    let both = and_parts (nat_le tag label_limit) (not (is_some (place_of_tag places tag))) (sym (ap (λ v. v || (nat_le tag label_limit && not (is_some (place_of_tag places tag)))) (some-tag tag first)) ∙ e) in
    (le-from tag label_limit both.0, not-from (is_some (place_of_tag places tag)) both.1)

module _ (bs : List (Block ℕ)) (after a tag : ℕ) (n : NextTagged bs after a tag) where
  further : (c : Block ℕ) → is_above address_of after c ≡ false → is_above address_of a c ≡ false
  further c below = beyond after a (address_of c) (address_of n.it) n.above n.at below
    where
      beyond : (k b x y : ℕ) → nat_lt k y ≡ true → y ≡ b → nat_lt k x ≡ false → nat_lt b x ≡ false
      beyond k b x y p e q = grind (arith, nat_tests, p, e, q)

  at_last : is_above address_of a n.it ≡ false
  at_last = itself a (address_of n.it) n.at
    where
      itself : (b y : ℕ) → y ≡ b → nat_lt b y ≡ false
      itself b y e = grind (arith, nat_tests, e)

  -- one block more
  pub one-walked : (at : Addr) (old new : List (Option Addr)) → at.0 ≡ a → Walked bs after old → is_vacant old tag ≡ true → length new ≤ label_limit → PutsPlace old new tag at → Walked bs a new
  one-walked at old new is w vacant most puts =
      record {
        most = most;
        past = λ c m below first.
            ⊎_elim
            (λ above.
            ⊎_elim
            (λ it.
            let tagged : c.label ≡ tag = ap (λ (x : Block ℕ). x.label) (sym it) ∙ n.label in
            let some : 1 ≤ tag = subst (λ k. 1 ≤ k) tagged first in
            record {
              most = subst (λ k. k ≤ label_limit) (sym tagged) (vacant-parts old tag some vacant).0;
              at =
                  ap (λ k. option_map (λ (x : Addr). x.0) (place_of_tag new k)) tagged
                  ∙ (ap (option_map (λ (x : Addr). x.0)) (puts.here some)
                  ∙ ap (λ k. Some k) (is ∙ (sym n.at ∙ ap (λ (x : Block ℕ). address_of x) it)));
            })
            (λ rest. absurd (false≢true (sym below ∙ kept-passes (is_above address_of a) c (by_address bs) rest)))
            (subst (λ cs. Among c cs) n.row (above-row bs after c m above)))
            (λ before.
            let h = w.past c m before first in
            ⊎_elim
            (λ same.
            absurd (false≢true (sym (vacant-parts old tag (subst (λ k. 1 ≤ k) same first) vacant).1 ∙ (ap (λ k. is_some (place_of_tag old k)) (sym same) ∙ has-some (place_of_tag old c.label) (address_of c) h.at))))
            (λ other. record { most = h.most; at = ap (option_map (λ (x : Addr). x.0)) (puts.others c.label first other) ∙ h.at })
            (cases_eq c.label tag))
            (cases_Bool (is_above address_of after c));
        from = λ t b first placed.
            ⊎_elim
            (λ same.
            let here : Some at ≡ Some b = sym (puts.here (subst (λ k. 1 ≤ k) same first)) ∙ (ap (place_of_tag new) (sym same) ∙ placed) in
            record {
              block = n.it;
              among = n.among;
              label = n.label ∙ sym same;
              at = n.at ∙ (sym is ∙ ap (λ (x : Addr). x.0) (same_Some at b here));
              passed = at_last;
            })
            (λ other.
            let s = w.from t b first (sym (puts.others t first other) ∙ placed) in
            record { block = s.block; among = s.among; label = s.label; at = s.at; passed = further s.block s.passed })
            (cases_eq t tag);
      }
    where
      has-some : (o : Option Addr) (k : ℕ) → option_map (λ (x : Addr). x.0) o ≡ Some k → is_some o ≡ true
      has-some None k e = absurd (none-some k e)
      has-some (Some x) k e = refl

  -- a tag that is another's, or is too great
  pub not-own : (places : List (Option Addr)) → Walked bs after places → is_vacant places tag ≡ false → have_own_tags bs ≡ false
  not-own places w taken =
      ⊎_elim
      (λ own. absurd (⊎_elim (λ none. false≢true (sym taken ∙ ap (λ v. v || fits) (no-tag tag none))) (λ first. twice own first (place_of_tag places tag) refl) (zero-or tag)))
      (λ t. t)
      (cases_Bool (have_own_tags bs))
    where
      fits : Bool
      fits = nat_le tag label_limit && not (is_some (place_of_tag places tag))

      twice : have_own_tags bs ≡ true → 1 ≤ tag → (o : Option Addr) → place_of_tag places tag ≡ o → ⊥
      twice own first None e =
          let most = subst (λ k. k ≤ label_limit) n.label (own-most bs n.it own n.among (subst (λ k. 1 ≤ k) (sym n.label) first)) in
          false≢true (sym taken ∙ or_right (tag == 0) (nat_le tag label_limit && not (is_some (place_of_tag places tag))) (and_from (nat_le tag label_limit) (not (is_some (place_of_tag places tag))) (le-within tag label_limit most) (ap (λ p. not (is_some p)) e)))
      twice own first (Some at) e =
          let s = w.from tag at first e in
          let same : n.it ≡ s.block = own-apart bs n.it s.block own n.among s.among (subst (λ k. 1 ≤ k) (sym n.label) first) (n.label ∙ sym s.label) in
          false≢true (sym s.passed ∙ (ap (is_above address_of after) (sym same) ∙ n.above))

-- all blocks
module _ (bs : List (Block ℕ)) (after : ℕ) (places : List (Option Addr)) (w : Walked bs after places) (end : blocks_above after bs ≡ []) where
  has-all : (c : Block ℕ) → Among c bs → 1 ≤ c.label → Has places c
  has-all c m first =
      ⊎_elim
      (λ above. absurd (subst (λ cs. Among c cs) end (above-row bs after c m above)))
      (λ passed. w.past c m passed first)
      (cases_Bool (is_above address_of after c))

  pub all-own : HaveOwnPlaces bs → have_own_tags bs ≡ true
  all-own own = own-all places bs own.distinct has-all

  placed : (tag : ℕ) → 1 ≤ tag → (o : Option Addr) → place_of_tag places tag ≡ o → option_map (λ (a : Addr). a.0) o ≡ option_map address_of (find (has_tag tag) bs)
  placed tag first None e =
      sym (ap (option_map address_of) (find-none (has_tag tag) bs (λ c m.
      ⊎_elim
      (λ t.
      let same : c.label ≡ tag = eqb-true c.label tag t in
      absurd (none-some (address_of c) (ap (option_map (λ (a : Addr). a.0)) (sym e) ∙ (ap (λ k. option_map (λ (a : Addr). a.0) (place_of_tag places k)) (sym same) ∙ (has-all c m (subst (λ k. 1 ≤ k) (sym same) first)).at))))
      (λ t. t)
      (cases_Bool (has_tag tag c)))))
  placed tag first (Some a) e =
      let s = w.from tag a first e in
      let f = found-among (has_tag tag) s.block bs s.among (eq-eqb s.block.label tag s.label) in
      let same : f.item.label ≡ tag = eqb-true f.item.label tag f.passes in
      let h = has-all f.item (among-find (has_tag tag) bs f.item f.found) (subst (λ k. 1 ≤ k) (sym same) first) in
      sym (ap (option_map address_of) f.found
      ∙ (sym h.at ∙ (ap (λ k. option_map (λ (x : Addr). x.0) (place_of_tag places k)) same ∙ ap (option_map (λ (x : Addr). x.0)) e)))

  pub all-walked : ArePlaces bs places
  all-walked = record { most = w.most; at = λ tag first. placed tag first (place_of_tag places tag) refl ∙ refl }
