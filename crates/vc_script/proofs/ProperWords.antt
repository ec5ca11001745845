-- What the forms of words give is proper, or a fault of words.
use Rattle.vc_base.proofs.Common.{◌≡◌, ℕ, zero, suc, Bool, true, false, cond, ◌&&◌, leb, List, [], ◌∷◌, length, ℤ, pos, neg_ℤ, nat_abs, ◌==◌, Some, None, Ok, Err, codes, Result, bytes_eq, sym, refl, subst, arith, leb-true, and_parts, list_all}
use Rattle.std.specs.List.{before_first, after_first}
use Rattle.percent_encoding.specs.Percent.{percent_decode}
use Rattle.vc_base.specs.declared.dict_method.DictMethod.TheVariants.{DtSet, DtBag, DtOset, DtObag, DtList, DtStack, DtQueue}
use Rattle.vc_seg.specs.declared.method.Method.TheVariants.{VmBest, VmPool, VmLast, VmDebug, VmProfile}
use Rattle.vc_script.specs.declared.line_fault.LineFault.{LineFault}
use Rattle.vc_script.specs.declared.line_fault.LineFault.TheVariants.{BadName, BadNumber, BadAddress, BadBytes, UnknownMethod}
use Rattle.vc_script.specs.Words.{digits_value, is_between, is_digit, is_escaped, is_name, is_number}
use Rattle.vc_script.specs.Forms.{◌>>=◌, read_address, read_address_parts, read_bytes, is_address, is_colon, read_dict_method, read_region_method, read_mode, read_name, read_name_or_dash, read_number, read_signed, read_site}
use Rattle.vc_script.specs.Proper.{IsProperAddress, IsFaultOfWords, IsName, IsNumber, IsSite}

-- the value is proper, or the fault is one of words
abbrev pub Gives : {A : Type 0} → (A → Type 0) → Result A LineFault → Type 0
Gives P (Ok a) = P a
Gives P (Err fault) = IsFaultOfWords fault

abbrev pub Anything : {A : Type 0} → A → Type 0
Anything a = Unit {0}

pub Gives-then : {A B : Type 0} (P : A → Type 0) (Q : B → Type 0) (r : Result A LineFault) (next : A → Result B LineFault) → Gives P r → ((a : A) → P a → Gives Q (next a)) → Gives Q (r >>= next)
Gives-then P Q (Ok a) next given step = step a given
Gives-then P Q (Err fault) next given step = given

pub Gives-if : {A : Type 0} (P : A → Type 0) (test : Bool) (r s : Result A LineFault) → (test ≡ true → Gives P r) → Gives P s → Gives P (cond test r s)
Gives-if P true r s first second = first refl
Gives-if P false r s first second = second

pub Gives-read_name : (word : List ℕ) → Gives IsName (read_name word)
Gives-read_name word = Gives-if IsName (is_name word) (Ok word) (Err BadName) (λ name. name) tt

pub Gives-read_site : (word : List ℕ) → Gives IsName (read_site word)
Gives-read_site [] = tt
Gives-read_site (b ∷ bs) = Gives-if IsName (b == 64) (read_name bs) (Err BadName) (λ _. Gives-read_name bs) tt

-- what a number's digits spell is below 2^32
small_number : (word : List ℕ) → is_number word ≡ true → IsNumber (digits_value word)
small_number word number =
    let rest = (and_parts (list_all is_digit word) (is_between 1 10 (length word) && leb (digits_value word) 4294967295) number).1 in
    let last = leb-true (digits_value word) 4294967295 (and_parts (is_between 1 10 (length word)) (leb (digits_value word) 4294967295) rest).1 in
    omega arith

pub Gives-read_number : (word : List ℕ) → Gives IsNumber (read_number word)
Gives-read_number word =
    Gives-if IsNumber (is_number word) (Ok (digits_value word)) (Err BadNumber) (small_number word) tt

-- a signed number has the size of a number
abbrev pub IsSigned : ℤ → Type 0
IsSigned off = IsNumber (nat_abs off)

nat_abs-neg : (n : ℕ) → nat_abs (neg_ℤ (pos n)) ≡ n
nat_abs-neg zero = refl
nat_abs-neg (suc n) = refl

pub Gives-read_signed : (word : List ℕ) → Gives IsSigned (read_signed word)
Gives-read_signed [] = tt
Gives-read_signed (b ∷ bs) =
    Gives-if IsSigned (b == 45) (read_number bs >>= λ n. Ok (neg_ℤ (pos n))) (read_number (b ∷ bs) >>= λ n. Ok (pos n))
    (λ _. Gives-then IsNumber IsSigned (read_number bs) (λ n. Ok (neg_ℤ (pos n))) (Gives-read_number bs) (λ n small. subst IsNumber (sym (nat_abs-neg n)) small))
    (Gives-then IsNumber IsSigned (read_number (b ∷ bs)) (λ n. Ok (pos n)) (Gives-read_number (b ∷ bs)) (λ n small. small))

-- the parts of an address are in their ranges
proper_address : (seg off : List ℕ) → is_address seg off ≡ true → IsProperAddress (record { seg = digits_value seg; off = digits_value off })
proper_address seg off address =
    let parts = and_parts (is_number seg && is_between 1 1023 (digits_value seg)) (is_number off && leb (digits_value off) 33554431) address in
    let between = and_parts (leb 1 (digits_value seg)) (leb (digits_value seg) 1023) (and_parts (is_number seg) (is_between 1 1023 (digits_value seg)) parts.0).1 in
    let low = leb-true 1 (digits_value seg) between.0 in
    let high = leb-true (digits_value seg) 1023 between.1 in
    let last = leb-true (digits_value off) 33554431 (and_parts (is_number off) (leb (digits_value off) 33554431) parts.1).1 in
    record { first = low; last = high; below = omega arith }

address_parts : (seg off : List ℕ) → Gives IsProperAddress (read_address_parts seg off)
address_parts seg off =
    Gives-if IsProperAddress (is_address seg off) (Ok (record { seg = digits_value seg; off = digits_value off })) (Err BadAddress) (proper_address seg off) tt

pub Gives-read_address : (word : List ℕ) → Gives IsProperAddress (read_address word)
Gives-read_address word = address_parts (before_first is_colon word) (after_first is_colon word)

pub Gives-read_bytes : (word : List ℕ) → Gives Anything (read_bytes word)
Gives-read_bytes word = Gives-if Anything (is_escaped word) (Ok (percent_decode word)) (Err BadBytes) (λ _. tt) tt

-- a word of a list, or the fault
one_of : {A : Type 0} (test : Bool) (a : A) (r : Result A LineFault) → Gives Anything r → Gives Anything (cond test (Ok a) r)
one_of test a r rest = Gives-if Anything test (Ok a) r (λ _. tt) rest

pub Gives-read_region_method : (word : List ℕ) → Gives Anything (read_region_method word)
Gives-read_region_method word =
    one_of (bytes_eq word (codes "best")) VmBest _
    (one_of (bytes_eq word (codes "pool")) VmPool _
    (one_of (bytes_eq word (codes "last")) VmLast _
    (one_of (bytes_eq word (codes "debug")) VmDebug _
    (one_of (bytes_eq word (codes "profile")) VmProfile (Err UnknownMethod) tt))))

pub Gives-read_mode : (word : List ℕ) → Gives Anything (read_mode word)
Gives-read_mode word =
    one_of (bytes_eq word (codes "move")) true _ (one_of (bytes_eq word (codes "fixed")) false (Err UnknownMethod) tt)

pub Gives-read_dict_method : (word : List ℕ) → Gives Anything (read_dict_method word)
Gives-read_dict_method word =
    one_of (bytes_eq word (codes "set")) DtSet _
    (one_of (bytes_eq word (codes "bag")) DtBag _
    (one_of (bytes_eq word (codes "oset")) DtOset _
    (one_of (bytes_eq word (codes "obag")) DtObag _
    (one_of (bytes_eq word (codes "list")) DtList _
    (one_of (bytes_eq word (codes "stack")) DtStack _
    (one_of (bytes_eq word (codes "queue")) DtQueue (Err UnknownMethod) tt))))))

pub Gives-read_name_or_dash : (word : List ℕ) → Gives IsSite (read_name_or_dash word)
Gives-read_name_or_dash word =
    Gives-if IsSite (bytes_eq word (codes "-")) (Ok None) (read_name word >>= λ name. Ok (Some name)) (λ _. tt)
    (Gives-then IsName IsSite (read_name word) (λ name. Ok (Some name)) (Gives-read_name word) (λ name proper. proper))
