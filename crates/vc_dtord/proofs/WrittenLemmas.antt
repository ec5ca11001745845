-- A number is written into a word of a holder: which links it has then, and what stays.
use Rattle.vc_base.proofs.Common.{◌≡◌, ℕ, ◌+◌, ◌*◌, ◌^◌, ◌<◌, ◌≤◌, Bool, true, false, cond, not, ◌&&◌, ◌≢◌, List, [], length, take, drop, is_some, nat_lt, Some, None, Option, bytes_eq, unwrap_or, sym, refl, ap, ◌∙◌, subst, inl, inr, true≢false, arith, w64, ltb-true, lt-ltb, eqb_tells, and_from, cases_lt, bytes_eq-Decides, to_le_bytes, Blocks, HasBytes, IsAddress, IsHolder, bytes_at, with_number, with_word, word, word_at, with_bytes}
use Rattle.vc_base.specs.Cells.{put}
use Rattle.vc_base.proofs.CellsLemmas.{WordWritten-store, drop_behind, put_same, window_before, window_same, word-with_word_other, word-with_word_same}
use Rattle.vc_dtlist.proofs.WordLemmas.{WordsWritten-trans, word-kept, word-other_block}
use Rattle.vc_splay.specs.Store.{with_kid, with_parent}
use Rattle.vc_splay.proofs.StoreLemmas.{with_kid-is, with_parent-is}
use Rattle.vc_dtord.specs.Nodes.{StaysButLinks, beside, is_link, is_node, is_node_of, node_store, word_bytes}
use Rattle.vc_dtord.specs.NodeLaws.{IsNodeAt, and-left, node-is}
use Rattle.vc_dtord.specs.WordWrites.{IsHolderCleared, NumberWritten}

-- the bytes of the word that was written, and those of others
bytes-here : (k value : ℕ) (bytes : List ℕ) → 8 * k + 8 ≤ length bytes → word_bytes k (with_word k value bytes) ≡ to_le_bytes w64 value
unfolding with_word
bytes-here k value bytes h = window_same (8 * k) (to_le_bytes w64 value) bytes (omega arith)

bytes-other : (j k value : ℕ) (bytes : List ℕ) → j ≢ k → 8 * k + 8 ≤ length bytes → word_bytes j (with_word k value bytes) ≡ word_bytes j bytes
unfolding with_word
bytes-other j k value bytes ne h =
    let src = to_le_bytes w64 value in
    elim (cases_lt j k) as (λ _. take 8 (drop (8 * j) (with_bytes (8 * k) src bytes)) ≡ take 8 (drop (8 * j) bytes)) [
      | inl below ↦ window_before (8 * k) 8 (8 * j) src bytes (omega arith) (omega arith)
      | inr above ↦ ap (take 8) (drop_behind (8 * k) (8 * j) src bytes (omega (arith, ne)) (omega arith))
    ]

bytes-behind : (n k value : ℕ) (bytes : List ℕ) → 8 * k + 8 ≤ n → 8 * k + 8 ≤ length bytes → drop n (with_word k value bytes) ≡ drop n bytes
unfolding with_word
bytes-behind n k value bytes far h = drop_behind (8 * k) n (to_le_bytes w64 value) bytes (omega arith) (omega arith)

link-here : (k value : ℕ) (bytes : List ℕ) → value < 2 ^ 32 → 8 * k + 8 ≤ length bytes → is_link k (with_word k value bytes) ≡ true
unfolding is_link
link-here k value bytes fits h =
    let after = with_word k value bytes in
    let w : word k after ≡ value = word-with_word_same k value bytes (omega arith) h in
    let e : word_bytes k after ≡ to_le_bytes w64 (word k after) = bytes-here k value bytes h ∙ ap (to_le_bytes w64) (sym w) in
    and_from (nat_lt (word k after) 4294967296) (bytes_eq (word_bytes k after) (to_le_bytes w64 (word k after)))
    (lt-ltb (word k after) 4294967296 (omega arith))
    ((bytes_eq-Decides (word_bytes k after) (to_le_bytes w64 (word k after))).1 e)

link-other : (j k value : ℕ) (bytes : List ℕ) → j ≢ k → 8 * k + 8 ≤ length bytes → is_link j (with_word k value bytes) ≡ is_link j bytes
unfolding is_link
link-other j k value bytes ne h =
    let after = with_word k value bytes in
    ap (λ w. nat_lt w 4294967296 && bytes_eq (word_bytes j after) (to_le_bytes w64 w)) (word-with_word_other j k value bytes ne h)
    ∙ ap (λ xs. nat_lt (word j bytes) 4294967296 && bytes_eq xs (to_le_bytes w64 (word j bytes))) (bytes-other j k value bytes ne h)

-- a store of a number below 2^32
pub NumberWritten-store : (old new : Blocks) (at k value : ℕ) → k < 4 → value < 2 ^ 32 → HasBytes old at (8 * k + 8) → new ≡ with_number at k value old → NumberWritten old new at k value
NumberWritten-store old new at k value few fits has e =
    let bytes = bytes_at old at in
    let after = put at (with_word k value bytes) old in
    let here : bytes_at after at ≡ with_word k value bytes = ap (λ o. unwrap_or o []) (put_same at (with_word k value bytes) old) in
    let done : NumberWritten old after at k value = record {
      word = WordWritten-store old after at k value few (omega arith) has refl;
      link = ap (is_link k) here ∙ link-here k value bytes fits has.enough;
      links = λ j ne. ap (is_link j) here ∙ link-other j k value bytes ne has.enough;
      behind = λ n far. ap (drop n) here ∙ bytes-behind n k value bytes far has.enough;
    } in
    subst (λ z. NumberWritten old z at k value) (sym e) done

-- what makes a node
node-by : (blocks : Blocks) (a : ℕ) → IsAddress a → 33 ≤ length (bytes_at blocks a) → is_link 0 (bytes_at blocks a) ≡ true → is_link 1 (bytes_at blocks a) ≡ true → is_link 2 (bytes_at blocks a) ≡ true → is_node blocks a ≡ true
unfolding is_node_of
node-by blocks a address long first second third =
    let bytes = bytes_at blocks a in
    let t0 = is_link 0 bytes in
    let t1 = is_link 1 bytes in
    let t2 = is_link 2 bytes in
    let enough = nat_lt 32 (length bytes) in
    let fits = nat_lt a 4294967296 in
    let least : 0 < a = address.some in
    let most : a < 4294967296 = address.fits in
    let h3 = and_from t0 (t1 && t2) first (and_from t1 t2 second third) in
    let h2 = and_from enough (t0 && (t1 && t2)) (lt-ltb 32 (length bytes) long) h3 in
    let h1 = and_from fits (enough && (t0 && (t1 && t2))) (lt-ltb a 4294967296 most) h2 in
    and_from (nat_lt 0 a) (fits && (enough && (t0 && (t1 && t2)))) (lt-ltb 0 a least) h1

-- a holder whose four words were written one by one
pub IsCleared-by : (b0 b1 b2 b3 b4 : Blocks) (at : ℕ) → IsAddress at → IsHolder b0 at → NumberWritten b0 b1 at 0 0 → NumberWritten b1 b2 at 1 0 → NumberWritten b2 b3 at 2 0 → NumberWritten b3 b4 at 3 0 → IsHolderCleared b0 b4 at
IsCleared-by b0 b1 b2 b3 b4 at address holder w0 w1 w2 w3 =
    let w = WordsWritten-trans b0 b1 b2 at w0.word.written w1.word.written in
    let v = WordsWritten-trans b0 b2 b3 at w w2.word.written in
    let u = WordsWritten-trans b0 b3 b4 at v w3.word.written in
    record {
      written = u;
      node = node-by b4 at address (rw (u.sizes at) holder.enough)
          (w3.links 0 (λ e. absurd (omega arith)) ∙ w2.links 0 (λ e. absurd (omega arith)) ∙ w1.links 0 (λ e. absurd (omega arith)) ∙ w0.link)
          (w3.links 1 (λ e. absurd (omega arith)) ∙ w2.links 1 (λ e. absurd (omega arith)) ∙ w1.link)
          (w3.links 2 (λ e. absurd (omega arith)) ∙ w2.link);
      last = w3.word.read (v.there at ∙ holder.there);
    }

-- a node is a holder
some_by : (o : Option (List ℕ)) → 33 ≤ length (unwrap_or o []) → is_some o ≡ true
some_by None h = absurd (omega arith)
some_by (Some xs) h = refl

pub node-holder : (blocks : Blocks) (a : ℕ) → is_node blocks a ≡ true → IsHolder blocks a
node-holder blocks a h = let p = node-is blocks a h in record { there = some_by (blocks a) p.long; enough = p.long }

pub node-words : (blocks : Blocks) (a : ℕ) → is_node blocks a ≡ true → HasBytes blocks a 32
node-words blocks a h = let p = node-holder blocks a h in record { there = p.there; enough = let k = p.enough in omega arith }

-- its links are below 2^32
link_small : (k : ℕ) (bytes : List ℕ) → is_link k bytes ≡ true → word k bytes < 2 ^ 32
unfolding is_link
link_small k bytes h = ltb-true (word k bytes) 4294967296 (and-left (nat_lt (word k bytes) 4294967296) (bytes_eq (word_bytes k bytes) (to_le_bytes w64 (word k bytes))) h)

pub node-link_fits : (blocks : Blocks) (a k : ℕ) → k < 3 → is_node blocks a ≡ true → word_at blocks a k < 2 ^ 32
node-link_fits blocks a k few h = link_small k (bytes_at blocks a) ((node-is blocks a h).links k few)

-- a link of a node was written
module _ {old new : Blocks} {n k value : ℕ} (w : NumberWritten old new n k value) (few : k < 3) (node : is_node old n ≡ true) where
  link-after : (j : ℕ) → j < 3 → is_link j (bytes_at new n) ≡ true
  link-after j lt = elim (eqb_tells j k) as (λ _. is_link j (bytes_at new n) ≡ true) [
    | inl same ↦ subst (λ z. is_link z (bytes_at new n) ≡ true) (sym same.1) w.link
    | inr apart ↦ w.links j apart.1 ∙ (node-is old n node).links j lt
  ]

  node-after : is_node new n ≡ true
  node-after =
      let p : IsNodeAt old n = node-is old n node in
      node-by new n p.address (rw (w.word.written.sizes n) p.long) (link-after 0 (omega arith)) (link-after 1 (omega arith)) (link-after 2 (omega arith))

  nodes-after : (a : ℕ) → is_node new a ≡ is_node old a
  nodes-after a = elim (eqb_tells a n) as (λ _. is_node new a ≡ is_node old a) [
    | inl same ↦ subst (λ z. is_node new z ≡ is_node old z) (sym same.1) (node-after ∙ sym node)
    | inr apart ↦ ap (λ o. is_node_of a (unwrap_or o [])) (w.word.written.others a apart.1)
  ]

  behind-after : (a : ℕ) → drop 24 (bytes_at new a) ≡ drop 24 (bytes_at old a)
  behind-after a = elim (eqb_tells a n) as (λ _. drop 24 (bytes_at new a) ≡ drop 24 (bytes_at old a)) [
    | inl same ↦ subst (λ z. drop 24 (bytes_at new z) ≡ drop 24 (bytes_at old z)) (sym same.1) (w.behind 24 (omega arith))
    | inr apart ↦ ap (λ o. drop 24 (unwrap_or o [])) (w.word.written.others a apart.1)
  ]

  pub stays-after : StaysButLinks old new
  stays-after = record {
    there = w.word.written.there;
    sizes = w.word.written.sizes;
    behind = behind-after;
    nodes = nodes-after;
    others = λ a none. w.word.written.others a (λ e. true≢false (sym (subst (λ z. is_node old z ≡ true) (sym e) node) ∙ none));
  }

  has-after : (mark m : ℕ) → (beside mark (node_store new)).has m ≡ (beside mark (node_store old)).has m
  has-after mark m = ap (λ z. z && is_node new m) (nodes-after mark) ∙ ap (λ z. is_node old mark && z) (nodes-after m)

  here-after : (j : ℕ) → k ≡ j → word_at new n j ≡ value
  here-after j e = subst (λ z. word_at new n z ≡ value) e (w.word.read (node-holder old n node).there)

  other_side : (d : Bool) → k ≡ cond d 0 1 → cond (not d) 0 1 ≢ k
  other_side true e q = absurd (omega arith)
  other_side false e q = absurd (omega arith)

  not_parent : (d : Bool) → k ≡ cond d 0 1 → 2 ≢ k
  not_parent true e q = absurd (omega arith)
  not_parent false e q = absurd (omega arith)

  not_kid : (d : Bool) → k ≡ 2 → cond d 0 1 ≢ k
  not_kid true e q = absurd (omega arith)
  not_kid false e q = absurd (omega arith)

  pub kid-after : (mark : ℕ) (d : Bool) → k ≡ cond d 0 1 → beside mark (node_store new) ≡ with_kid d n value (beside mark (node_store old))
  kid-after mark d e =
      with_kid-is (beside mark (node_store old)) (beside mark (node_store new)) d n value (has-after mark) (here-after (cond d 0 1) e)
      (λ m. word-kept old new n k value w.word m (cond (not d) 0 1) (other_side d e))
      (λ m ne f. word-other_block old new n m (cond f 0 1) w.word.written ne)
      (λ m. word-kept old new n k value w.word m 2 (not_parent d e))

  pub parent-after : (mark : ℕ) → k ≡ 2 → beside mark (node_store new) ≡ with_parent n value (beside mark (node_store old))
  parent-after mark e =
      with_parent-is (beside mark (node_store old)) (beside mark (node_store new)) n value (has-after mark)
      (λ d m. word-kept old new n k value w.word m (cond d 0 1) (not_kid d e))
      (here-after 2 e)
      (λ m ne. word-other_block old new n m 2 w.word.written ne)
