-- What a dictionary shows when its first object, the next one, or none is current.
use Rattle.vc_base.proofs.Common.{◌≡◌, ℕ, suc, ◌+◌, ◌-◌, ◌<◌, true, List, length, if◌then◌else◌, Some, None, sym, ap, ◌∙◌, arith, length-map, ne_eqb, lt-ltb, le-ltb, Blocks, contains, first_in, last_in, next_in, previous_in, some_address}
use Rattle.vc_base.specs.declared.addr.Addr.{Addr}
use Rattle.vc_base.proofs.Members.{within-head}
use Rattle.vc_dtdisc.specs.Objects as objects
use Rattle.vc_dtdisc.specs.Objects.{Object}
use Rattle.vc_dtdisc.specs.Rules.{Rules}
use Rattle.vc_dict.specs.Listed.{holders_of}
use Rattle.vc_dict.specs.declared.dict.Dict.{Dict}
use Rattle.vc_dict.proofs.OwnLemmas.{holders-distinct}
use Rattle.vc_objects.specs.Parts.{IsWhole, dictionary_of, object_of}
use Rattle.vc_objects.specs.Remove.{bytes_of}
use Rattle.vc_store.specs.Contents.{current_place}
use Rattle.vc_store.specs.Reading.{first_place, last_index, next_place, previous_place}
use Rattle.vc_store.proofs.Places.{last-placed, none-first, none-last, none-previous, place, place-first, place-last, place-next, place-within, previous-placed, within-first, within-next}
use Rattle.vc_store.proofs.Shown.{pointed-place}

some-first : (n : ℕ) → 0 < n → Some 0 ≡ first_place n
some-first n more = sym (ap (λ t. if t then None else Some 0) (ne_eqb n 0 (λ e. absurd (omega (arith, more, e)))))

next-within : (n p q : ℕ) → q ≡ suc p → q < n → Some q ≡ next_place n (Some p)
next-within n p q e less =
    let same : q ≡ p + 1 = omega (arith, e) in
    ap Some same ∙ sym (ap (λ t. if t then Some (p + 1) else None) (lt-ltb (p + 1) n (omega (arith, e, less))))

next-over : (n p : ℕ) → suc p ≡ n → None ≡ next_place n (Some p)
next-over n p e = sym (ap (λ t. if t then Some (p + 1) else None) (le-ltb (p + 1) n (omega (arith, e))))

last-some : (n p : ℕ) → suc p ≡ n → Some p ≡ last_index n
last-some n p e =
    let same : p ≡ n - 1 = omega (arith, e) in
    ap Some same ∙ sym (ap (λ t. if t then None else Some (n - 1)) (ne_eqb n 0 (λ z. absurd (omega (arith, e, z)))))

previous-some : (p q : ℕ) → p ≡ suc q → Some q ≡ previous_place (Some p)
previous-some p q e =
    let same : q ≡ p - 1 = omega (arith, e) in
    ap Some same ∙ sym (ap (λ t. if t then None else Some (p - 1)) (ne_eqb p 0 (λ z. absurd (omega (arith, e, z)))))

module _ (rules : Rules) (d : Dict) (b : Blocks) (whole : IsWhole rules d b) where
  abbrev hs : List ℕ
  hs = holders_of d b

  abbrev os : List Object
  os = (dictionary_of d b).objects

  counted : length (bytes_of os) ≡ length hs
  counted = length-map os objects.bytes_of ∙ length-map hs (object_of b)

  -- with none current
  pub none-whole : IsWhole rules (record { method = d.method; kind = d.kind; count = d.count; current = record { 0 = 0 }; heads = d.heads }) b
  none-whole = record {
    stands = record { form = whole.stands.form; heads = whole.stands.heads; count = whole.stands.count };
    current = within-head 0 hs;
    table = whole.table;
    objects = whole.objects;
  }

  pub first-some : (at : Addr) → Some at.0 ≡ first_in hs → current_place (some_address at.0) os ≡ first_place (length (bytes_of os))
  first-some at e =
      let w = within-first hs at.0 (sym e) in
      let in_list = place-within hs at.0 w in
      let same = counted in
      pointed-place rules d b at whole w ∙ (ap Some (place-first hs at.0 (sym e)) ∙ some-first (length (bytes_of os)) (omega (arith, in_list, same)))

  pub first-none : None ≡ first_in hs → None ≡ first_place (length (bytes_of os))
  first-none e = sym (ap first_place (counted ∙ none-first hs (sym e)))

  pub last-there : (at : Addr) → Some at.0 ≡ last_in hs → contains hs at.0 ≡ true
  last-there at e = (last-placed hs at.0 (holders-distinct rules d b hs whole.stands) (sym e)).0

  pub last-moved : (at : Addr) → Some at.0 ≡ last_in hs → current_place (some_address at.0) os ≡ last_index (length (bytes_of os))
  last-moved at e =
      let h = last-placed hs at.0 (holders-distinct rules d b hs whole.stands) (sym e) in
      pointed-place rules d b at whole h.0 ∙ last-some (length (bytes_of os)) (place at.0 hs) (h.1 ∙ sym counted)

  pub last-none : None ≡ last_in hs → None ≡ last_index (length (bytes_of os))
  last-none e = sym (ap last_index (counted ∙ none-last hs (sym e)))

  module _ (w : contains hs d.current.0 ≡ true) where
    here : current_place (some_address d.current.0) os ≡ Some (place d.current.0 hs)
    here = pointed-place rules d b d.current whole w

    pub next-some : (at : Addr) → Some at.0 ≡ next_in d.current.0 hs → current_place (some_address at.0) os ≡ next_place (length (bytes_of os)) (current_place (some_address d.current.0) os)
    next-some at e =
        let v = within-next hs d.current.0 at.0 (sym e) in
        let in_list = place-within hs at.0 v in
        let same = counted in
        pointed-place rules d b at whole v
        ∙ (next-within (length (bytes_of os)) (place d.current.0 hs) (place at.0 hs) (place-next hs d.current.0 at.0 (holders-distinct rules d b hs whole.stands) (sym e)) (omega (arith, in_list, same))
        ∙ ap (next_place (length (bytes_of os))) (sym here))

    pub next-none : None ≡ next_in d.current.0 hs → None ≡ next_place (length (bytes_of os)) (current_place (some_address d.current.0) os)
    next-none e =
        next-over (length (bytes_of os)) (place d.current.0 hs) (place-last hs d.current.0 w (sym e) ∙ sym counted)
        ∙ ap (next_place (length (bytes_of os))) (sym here)

    pub previous-there : (at : Addr) → Some at.0 ≡ previous_in None d.current.0 hs → contains hs at.0 ≡ true
    previous-there at e = (previous-placed hs d.current.0 at.0 (holders-distinct rules d b hs whole.stands) (sym e)).0

    pub previous-moved : (at : Addr) → Some at.0 ≡ previous_in None d.current.0 hs → current_place (some_address at.0) os ≡ previous_place (current_place (some_address d.current.0) os)
    previous-moved at e =
        let h = previous-placed hs d.current.0 at.0 (holders-distinct rules d b hs whole.stands) (sym e) in
        pointed-place rules d b at whole h.0
        ∙ (previous-some (place d.current.0 hs) (place at.0 hs) h.1 ∙ ap previous_place (sym here))

    pub previous-none : None ≡ previous_in None d.current.0 hs → None ≡ previous_place (current_place (some_address d.current.0) os)
    previous-none e =
        sym (ap (λ p. previous_place (Some p)) (none-previous hs d.current.0 w (sym e)))
        ∙ ap previous_place (sym here)
