-- What a dictionary of a best region shows, read from its heads and from the region's cells.
use Rattle.std.specs.Prelude.{ℕ, suc, List, [], ◌∷◌, Option, Some, None, ◌==◌, if◌then◌else◌}
use Rattle.vc_base.specs.declared.addr.Addr.{Addr}
use Rattle.vc_dtdisc.specs.Objects.{Object}
use Rattle.vc_dict.specs.declared.dict.Dict.{Dict}
use Rattle.vc_best.specs.declared.best.Best.{Best}
use Rattle.vc_objects.specs.Objects.{Dictionary}
use Rattle.vc_objects.specs.Parts.{dictionary_in}
use Rattle.vc_objects.specs.Remove.{bytes_of}
use Rattle.vc_store.specs.Reading.{Contents}

-- how many objects stand before the one at an address
abbrev pub before_address : ℕ → List Object → ℕ
before_address at [] = 0
before_address at (o ∷ objects) = if o.at == at then 0 else suc (before_address at objects)

-- the place of the current one
abbrev pub current_place : Option ℕ → List Object → Option ℕ
current_place None objects = None
current_place (Some at) objects = Some (before_address at objects)

abbrev pub contents_of : Dictionary → Contents
contents_of d =
    record { method = d.method; objects = bytes_of d.objects; place = current_place d.current d.objects }

abbrev pub contents_in : {I : Type 0} {V : I → Type 0} → Dict → Best I V → Contents
contents_in dict best = contents_of (dictionary_in dict best)

-- with the object of a holder current, where there is one
abbrev pub with_holder_current : Option Addr → Dict → Dict
with_holder_current None dict = dict
with_holder_current (Some at) dict =
    record { method = dict.method; kind = dict.kind; count = dict.count; current = at; heads = dict.heads }
