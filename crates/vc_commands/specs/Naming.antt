-- What comes of the names when a block is put, and of the answer when none is.
use Rattle.std.specs.Prelude.{◌≡◌, ℕ, List, Option, Some, None, Result, Ok, Err, is_some, ◌||◌, length, nat_lt, option_map, if◌then◌else◌}
use Rattle.vc_model.specs.Addr.{place_of}
use Rattle.vc_base.specs.declared.addr.Addr.{Addr}
use Rattle.vc_seg.specs.declared.fault.RegionFault.{RegionFault}
use Rattle.vc_script.specs.declared.refusal.Refusal.{Refusal}
use Rattle.vc_script.specs.declared.refusal.Refusal.TheVariants.{BlockExists, TooManyBlocks}
use Rattle.vc_script.specs.declared.reply.Reply.{Reply}
use Rattle.vc_script.specs.declared.reply.Reply.TheVariants as reply
use Rattle.vc_commands.specs.declared.region.labels.Labels.{Labels}
use Rattle.vc_commands.specs.Blocks.{at_place, fault_of, label_limit, script_refusal}
use Rattle.vc_commands.specs.FreedNames.{freed_line, without_name}
use Rattle.vc_commands.specs.Labels.{AreLabels, WithLabel, kept_of, tag_of}

-- why a new block is refused before a place is looked for, by the refusal of its words
abbrev pub new_refused_by : Labels → List ℕ → Option Refusal → Option Refusal
new_refused_by labels x (Some refusal) = Some refusal
new_refused_by labels x None =
    if is_some (freed_line x (kept_of labels)) || nat_lt (length labels.tags.entries) label_limit then None
    else Some TooManyBlocks

abbrev pub new_refused : Labels → List ℕ → Option Refusal → Option Refusal
new_refused labels x words =
    if is_some (tag_of labels x) then Some BlockExists else new_refused_by labels x words

-- the answer to a region's fault is its refusal, or want of memory
abbrev pub TellsFault : {E : Type 0} → RegionFault → Result Reply E → Type 0
TellsFault fault (Ok told) = option_map (λ f. reply.Refused (script_refusal f)) (fault_of fault) ≡ Some told
TellsFault fault (Err e) = fault_of fault ≡ None

-- a block that was put has the name, which is kept as freed no more, and the tag, and its place is told; else the fault is told, and the names stay
abbrev pub NamesPut : {E : Type 0} → ℕ → List ℕ → Result Addr RegionFault → Labels → Labels → Result Reply E → Type 0
NamesPut tag x (Ok a) old new answer =
    (answer ≡ Ok (at_place x (place_of a.0) None)) × WithLabel old new tag (record { name = x; at = a }) × AreLabels new
    × (kept_of new ≡ without_name x (kept_of old))
NamesPut tag x (Err fault) old new answer = TellsFault fault answer × (new ≡ old)
