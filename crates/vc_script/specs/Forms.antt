-- The forms of words: what a word of the form spells, and the fault of any other word.
use Rattle.std.specs.Prelude.{ℕ, ℤ, pos, neg_ℤ, List, [], ◌∷◌, Option, Some, None, Bool, true, false, bytes_eq, codes, nat_le, ◌==◌, ◌&&◌, if◌then◌else◌, Result, Ok, Err}
use Rattle.std.specs.List.{before_first, after_first}
use Rattle.percent_encoding.specs.Percent.{percent_decode}
use Rattle.vc_base.specs.declared.dict_method.DictMethod.{DictMethod}
use Rattle.vc_base.specs.declared.dict_method.DictMethod.TheVariants.{DtSet, DtBag, DtOset, DtObag, DtList, DtStack, DtQueue}
use Rattle.vc_seg.specs.declared.method.Method.{Method}
use Rattle.vc_seg.specs.declared.method.Method.TheVariants.{VmBest, VmPool, VmLast, VmDebug, VmProfile}
use Rattle.vc_script.specs.declared.line_fault.LineFault.{LineFault}
use Rattle.vc_script.specs.declared.line_fault.LineFault.TheVariants.{BadName, BadNumber, BadAddress, BadBytes, UnknownMethod}
use Rattle.vc_script.specs.declared.place.Place.{Place}
use Rattle.vc_script.specs.Words.{is_between, is_name, is_number, is_escaped, digits_value}

-- the first fault ends the reading
infixl 10 ◌>>=◌
abbrev pub ◌>>=◌ : {A B : Type 0} → Result A LineFault → (A → Result B LineFault) → Result B LineFault
Ok a >>= next = next a
Err fault >>= next = Err fault

abbrev pub read_name : List ℕ → Result (List ℕ) LineFault
read_name word = if is_name word then Ok word else Err BadName

-- a site is `@` and a name, and is kept without its `@`
abbrev pub read_site : List ℕ → Result (List ℕ) LineFault
read_site [] = Err BadName
read_site (b ∷ bs) = if b == 64 then read_name bs else Err BadName

-- the site of a last word that may be missing
abbrev pub read_some_site : List ℕ → Result (Option (List ℕ)) LineFault
read_some_site word = read_site word >>= λ site. Ok (Some site)

abbrev pub read_number : List ℕ → Result ℕ LineFault
read_number word = if is_number word then Ok (digits_value word) else Err BadNumber

-- a signed number is a number, or `-` and a number
abbrev pub read_signed : List ℕ → Result ℤ LineFault
read_signed [] = Err BadNumber
read_signed (b ∷ bs) =
    if b == 45 then (read_number bs >>= λ n. Ok (neg_ℤ (pos n)))
    else (read_number (b ∷ bs) >>= λ n. Ok (pos n))

abbrev pub is_colon : ℕ → Bool
is_colon b = b == 58

-- the words of a segment, from 1 to 1,023, and of an offset, at most 33,554,431
abbrev pub is_address : List ℕ → List ℕ → Bool
is_address seg off =
    (is_number seg && is_between 1 1023 (digits_value seg))
    && (is_number off && nat_le (digits_value off) 33554431)

abbrev pub read_address_parts : List ℕ → List ℕ → Result Place LineFault
read_address_parts seg off =
    if is_address seg off
    then Ok (record { seg = digits_value seg; off = digits_value off })
    else Err BadAddress

-- an address is a number, `:` and a number
abbrev pub read_address : List ℕ → Result Place LineFault
read_address word = read_address_parts (before_first is_colon word) (after_first is_colon word)

-- `%` and two hexadecimal digits stand for that byte, and every other byte for itself
abbrev pub read_bytes : List ℕ → Result (List ℕ) LineFault
read_bytes word = if is_escaped word then Ok (percent_decode word) else Err BadBytes

-- the methods of regions
abbrev pub read_region_method : List ℕ → Result Method LineFault
read_region_method word =
    if bytes_eq word (codes "best") then Ok VmBest
    else (if bytes_eq word (codes "pool") then Ok VmPool
    else (if bytes_eq word (codes "last") then Ok VmLast
    else (if bytes_eq word (codes "debug") then Ok VmDebug
    else (if bytes_eq word (codes "profile") then Ok VmProfile
    else Err UnknownMethod))))

-- the methods of dictionaries
abbrev pub read_dict_method : List ℕ → Result DictMethod LineFault
read_dict_method word =
    if bytes_eq word (codes "set") then Ok DtSet
    else (if bytes_eq word (codes "bag") then Ok DtBag
    else (if bytes_eq word (codes "oset") then Ok DtOset
    else (if bytes_eq word (codes "obag") then Ok DtObag
    else (if bytes_eq word (codes "list") then Ok DtList
    else (if bytes_eq word (codes "stack") then Ok DtStack
    else (if bytes_eq word (codes "queue") then Ok DtQueue
    else Err UnknownMethod))))))

-- whether a block may move
abbrev pub read_mode : List ℕ → Result Bool LineFault
read_mode word =
    if bytes_eq word (codes "move") then Ok true
    else (if bytes_eq word (codes "fixed") then Ok false
    else Err UnknownMethod)

-- a name, or `-` for none
abbrev pub read_name_or_dash : List ℕ → Result (Option (List ℕ)) LineFault
read_name_or_dash word =
    if bytes_eq word (codes "-") then Ok None else (read_name word >>= λ name. Ok (Some name))

-- the forms of words
pub data Form : Type 0 where
  Name : Form
  Site : Form
  Number : Form
  SignedNumber : Form
  Address : Form
  Bytes : Form
  RegionMethod : Form
  DictionaryMethod : Form
  Mode : Form
  NameOrDash : Form

-- what a word of a form spells
abbrev pub Value : Form → Type 0
Value Name = List ℕ
Value Site = List ℕ
Value Number = ℕ
Value SignedNumber = ℤ
Value Address = Place
Value Bytes = List ℕ
Value RegionMethod = Method
Value DictionaryMethod = DictMethod
Value Mode = Bool
Value NameOrDash = Option (List ℕ)

abbrev pub read_value : (form : Form) → List ℕ → Result (Value form) LineFault
read_value Name word = read_name word
read_value Site word = read_site word
read_value Number word = read_number word
read_value SignedNumber word = read_signed word
read_value Address word = read_address word
read_value Bytes word = read_bytes word
read_value RegionMethod word = read_region_method word
read_value DictionaryMethod word = read_dict_method word
read_value Mode word = read_mode word
read_value NameOrDash word = read_name_or_dash word
