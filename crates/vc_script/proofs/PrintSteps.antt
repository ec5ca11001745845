-- Steps of the printers of replies.
use Rattle.vc_base.proofs.Common.{◌≡◌, ℕ, ◌+◌, ◌<◌, ◌≤◌, Bool, true, false, cond, not, ◌||◌, List, [], ◌∷◌, ◌++◌, length, get_or, take, drop, flat_map, sym, refl, ap, ◌∙◌, subst, append_assoc, ⊎_elim, arith, nat_tests, cases_lt, IsTrue, and_parts, list_all}
use Rattle.std.specs.Char.{is_ascii}
use Rattle.std.specs.Io.{StartsWith}
use Rattle.std.proofs.lemmas.List.{flat_map_more, take-append-drop, take_more}
use Rattle.std.proofs.Math.Seq.{take-append_seam}
use Rattle.std.proofs.lemmas.Bool.{agree_below, agree_below_at}
use Rattle.percent_encoding.specs.AsciiSet.{contains, should_percent_encode}
use Rattle.percent_encoding.specs.Percent.{encode_byte, percent_encode, percent_encode_byte}
use Rattle.vc_script.specs.declared.print_parts.TheConstants.{ESCAPED}
use Rattle.vc_script.specs.Shown.{is_plain, shown_bytes, shown_byte}

-- the ASCII bytes that are escaped are those that aren't plain
escaped-ascii : agree_below (contains ESCAPED) (λ b. not (is_plain b)) 128 ≡ true
escaped-ascii = refl

should-below : (b : ℕ) → b < 128 → should_percent_encode ESCAPED b ≡ not (is_plain b)
unfolding should_percent_encode
should-below b below =
    let ascii : is_ascii b ≡ true = grind (arith, nat_tests) in
    ap (λ t. not t || contains ESCAPED b) ascii ∙ agree_below_at (contains ESCAPED) (λ n. not (is_plain n)) 128 b escaped-ascii below

should-above : (b : ℕ) → 128 ≤ b → should_percent_encode ESCAPED b ≡ not (is_plain b)
unfolding should_percent_encode
should-above b above =
    let other : is_ascii b ≡ false = grind (arith, nat_tests) in
    let plain : is_plain b ≡ false = grind (arith, nat_tests) in
    ap (λ t. not t || contains ESCAPED b) other ∙ ap not (sym plain)

should-plain : (b : ℕ) → should_percent_encode ESCAPED b ≡ not (is_plain b)
should-plain b = ⊎_elim (should-below b) (should-above b) (cases_lt b 128)

cond-not : {A : Type 0} (t : Bool) (x y : A) → cond (not t) x y ≡ cond t y x
cond-not true x y = refl
cond-not false x y = refl

encode_byte-shown : (b : ℕ) → encode_byte ESCAPED b ≡ shown_byte b
encode_byte-shown b = ap (λ t. cond t (percent_encode_byte b) (b ∷ [])) (should-plain b) ∙ cond-not (is_plain b) (percent_encode_byte b) (b ∷ [])

pub percent_encode-shown : (bytes : List ℕ) → percent_encode ESCAPED bytes ≡ shown_bytes bytes
unfolding percent_encode
percent_encode-shown [] = refl
percent_encode-shown (b ∷ bs) = ap (λ e. e ++ percent_encode ESCAPED bs) (encode_byte-shown b) ∙ ap (λ rest. shown_byte b ++ rest) (percent_encode-shown bs)

-- bytes that stand for themselves are shown as they are
pub shown_bytes-plain : (bytes : List ℕ) → IsTrue (list_all is_plain bytes) → shown_bytes bytes ≡ bytes
shown_bytes-plain [] each = refl
shown_bytes-plain (b ∷ bs) each =
    let parts = and_parts (is_plain b) (list_all is_plain bs) each in
    ap (λ t. cond t (b ∷ []) (percent_encode_byte b) ++ shown_bytes bs) parts.0 ∙ ap (λ rest. b ∷ rest) (shown_bytes-plain bs parts.1)

-- what begins with a text and another behind it begins with the one
pub front-of : (old more new : List ℕ) → take (length (old ++ more)) new ≡ old ++ more → (take (length (old ++ more)) new ≡ old ++ more) × (take (length old) new ≡ old)
front-of old more new same =
    let rest = drop (length (old ++ more)) new in
    let whole : (old ++ more) ++ rest ≡ new = ap (λ f. f ++ rest) (sym same) ∙ take-append-drop (length (old ++ more)) new in
    (same, ap (take (length old)) (sym whole ∙ append_assoc old more rest) ∙ take-append_seam old (more ++ rest))

pub ruleset front_steps = (front-of, take-append_seam)

pub ruleset shown_steps = (percent_encode-shown, front-of, take-append_seam)

pub front-behind : (old mid new : List ℕ) → StartsWith mid old → StartsWith new mid → StartsWith new old
front-behind old mid new first then =
    let whole = take-append-drop (length old) mid in
    let split : old ++ drop (length old) mid ≡ mid = ap (λ f. f ++ drop (length old) mid) (sym first) ∙ whole in
    (front-of old (drop (length old) mid) new (subst (StartsWith new) (sym split) then)).1

-- one item more behind those that stand in a line
pub one-more : {X : Type 0} (text : X → List ℕ) (begun : List ℕ) (items told : List X) (i : ℕ) (d : X) {line next : List ℕ}
    → told ≡ items → i < length told → line ≡ begun ++ flat_map text (take i items) → next ≡ line ++ text (get_or told i d)
    → next ≡ begun ++ flat_map text (take (i + 1) items)
one-more text begun items told i d same within so_far put =
    put
    ∙ ap (λ t. t ++ text (get_or told i d)) so_far
    ∙ ap (λ xs. (begun ++ flat_map text (take i xs)) ++ text (get_or told i d)) (sym same)
    ∙ flat_map_more text begun (take i told) (get_or told i d)
    ∙ ap (λ xs. begun ++ flat_map text xs) (sym (take_more told i d within))
    ∙ ap (λ xs. begun ++ flat_map text (take (i + 1) xs)) same
