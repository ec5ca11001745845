-- A dictionary of which another object is made current, or none.
use Rattle.vc_base.proofs.Common.{◌≡◌, ◌==◌, ℕ, true, false, List, Option, Some, None, is_some, length, if◌then◌else◌, refl, sym, ap, ◌∙◌, Blocks, contains, first_in, last_in, next_in, previous_in, some_address}
use Rattle.vc_base.specs.declared.addr.Addr.{Addr}
use Rattle.vc_dtdisc.specs.Objects.{Object}
use Rattle.vc_dict.specs.Listed.{holders_of}
use Rattle.vc_dict.specs.Stands.{IsIn, IsKept}
use Rattle.vc_dict.specs.declared.dict.Dict.{Dict}
use Rattle.vc_best.specs.Cells.{cells_in}
use Rattle.vc_best.specs.declared.best.Best.{Best}
use Rattle.vc_objects.specs.Parts.{dictionary_of}
use Rattle.vc_store.specs.Contents.{contents_in, current_place}
use Rattle.vc_store.specs.Reading.{first_place, last_index, next_place, previous_place, with_place}
use Rattle.vc_store.proofs.Cursor.{first-none, first-some, last-moved, last-none, last-there, next-none, next-some, none-whole, previous-moved, previous-none, previous-there}
use Rattle.vc_store.proofs.Places.{within-first, within-next}
use Rattle.vc_store.proofs.Shown.{pointed-place, pointed-whole, within-rest}
use Rattle.vc_store.specs.Moves.{IsWholeBySome, Moves}

module _ {I : Type 0} {V : I → Type 0} (best : Best I V) (d : Dict) (by : IsWholeBySome d (cells_in best)) where
  abbrev b : Blocks
  b = cells_in best

  abbrev xs : List ℕ
  xs = holders_of d b

  abbrev pub os : List Object
  os = (dictionary_of d b).objects

  -- it may be looked at
  pub can-look : IsKept d b
  can-look = record { rules = by.rules; is = record { holders = xs; stands = by.whole.stands } }

  pub current-within : (d.current.0 == 0) ≡ false → contains xs d.current.0 ≡ true
  current-within some = within-rest d.current.0 xs some by.whole.current

  pub current-in : (d.current.0 == 0) ≡ false → IsIn d b d.current.0
  current-in some = record { rules = by.rules; is = record { holders = xs; stands = by.whole.stands; within = current-within some } }

  -- a dictionary with another address as its current one
  abbrev with_current : Addr → Dict
  with_current at = record { method = d.method; kind = d.kind; count = d.count; current = at; heads = d.heads }

  -- one of its objects
  pub moved-to : (at : Addr) (place : Option ℕ) → contains xs at.0 ≡ true → current_place (some_address at.0) os ≡ place → Moves place true best d (with_current at)
  moved-to at place w e = record {
    goes = record {
      moved = ap (λ p. with_place p (contents_in d best)) e;
      there = sym (ap is_some (sym e ∙ pointed-place by.rules d b at by.whole w));
    };
    whole = λ rules is. pointed-whole rules d b at is w;
    kind = refl;
    own = refl;
  }

  -- none
  pub moved-none : (place : Option ℕ) → None ≡ place → Moves place false best d (with_current (record { 0 = 0 }))
  moved-none place e = record {
    goes = record { moved = ap (λ p. with_place p (contents_in d best)) e; there = ap is_some e };
    whole = λ rules is. none-whole rules d b is;
    kind = refl;
    own = refl;
  }

  -- and where none is, it stays so
  pub moved-still : (f : Option ℕ → Option ℕ) → f None ≡ None → (d.current.0 == 0) ≡ true → Moves (f (contents_in d best).place) false best d d
  moved-still f stays none =
      let is : (contents_in d best).place ≡ None = ap (λ t. current_place (if t then None else Some d.current.0) os) none in
      record {
        goes = record {
          moved = ap (λ p. with_place p (contents_in d best)) (is ∙ (sym stays ∙ sym (ap f is)));
          there = sym (ap is_some (ap f is ∙ stays));
        };
        whole = λ rules is. is;
        kind = refl;
        own = refl;
      }

  -- how many there are, and the place of the current one
  abbrev many : ℕ
  many = length (contents_in d best).objects

  abbrev here : Option ℕ
  here = (contents_in d best).place

  -- the first, and the last
  pub to-first : (at : Addr) → Some at.0 ≡ first_in xs → Moves (first_place many) true best d (with_current at)
  to-first at told = moved-to at (first_place many) (within-first xs at.0 (sym told)) (first-some by.rules d b by.whole at told)

  pub no-first : None ≡ first_in xs → Moves (first_place many) false best d (with_current (record { 0 = 0 }))
  no-first told = moved-none (first_place many) (first-none by.rules d b by.whole told)

  pub to-last : (at : Addr) → Some at.0 ≡ last_in xs → Moves (last_index many) true best d (with_current at)
  to-last at told = moved-to at (last_index many) (last-there by.rules d b by.whole at told) (last-moved by.rules d b by.whole at told)

  pub no-last : None ≡ last_in xs → Moves (last_index many) false best d (with_current (record { 0 = 0 }))
  no-last told = moved-none (last_index many) (last-none by.rules d b by.whole told)

  -- the one behind the current one, and the one before it
  module _ (some : (d.current.0 == 0) ≡ false) where
    pub to-next : (at : Addr) → Some at.0 ≡ next_in d.current.0 xs → Moves (next_place many here) true best d (with_current at)
    to-next at told =
        moved-to at (next_place many here) (within-next xs d.current.0 at.0 (sym told)) (next-some by.rules d b by.whole (current-within some) at told)

    pub no-next : None ≡ next_in d.current.0 xs → Moves (next_place many here) false best d (with_current (record { 0 = 0 }))
    no-next told = moved-none (next_place many here) (next-none by.rules d b by.whole (current-within some) told)

    pub to-prev : (at : Addr) → Some at.0 ≡ previous_in None d.current.0 xs → Moves (previous_place here) true best d (with_current at)
    to-prev at told =
        let w = current-within some in
        moved-to at (previous_place here) (previous-there by.rules d b by.whole w at told) (previous-moved by.rules d b by.whole w at told)

    pub no-prev : None ≡ previous_in None d.current.0 xs → Moves (previous_place here) false best d (with_current (record { 0 = 0 }))
    no-prev told = moved-none (previous_place here) (previous-none by.rules d b by.whole (current-within some) told)
