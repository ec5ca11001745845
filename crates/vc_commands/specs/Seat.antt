-- Where a command on a dictionary works, and what it gives.
use Rattle.std.specs.Prelude.{ℕ, List, []}
use Rattle.vc_model.specs.Layout.{Layout}
use Rattle.vc_model.specs.Discipline.{Terms}
use Rattle.vc_model.specs.Segments.{Grant}
use Rattle.vc_dtdisc.specs.Rules.{Rules}
use Rattle.vc_objects.specs.Objects.{Dictionary}
use Rattle.vc_script.specs.declared.refusal.Refusal.{Refusal}
use Rattle.vc_script.specs.declared.reply.Reply.{Reply}
use Rattle.vc_script.specs.declared.reply.Reply.TheVariants.{Refused}

-- the rules of its kind, the terms of the region's discipline, the label of a block without a name, the region, and the dictionary
pub record Seat (L : Type 0) : Type 0 where
  pub rules : Rules
  pub terms : Terms
  pub none : L
  pub region : Layout L
  pub dict : Dictionary

-- the region and the dictionary after it, the reply, the objects that the kind is told of, and what was granted
pub record DictChanged (L : Type 0) : Type 0 where
  pub region : Layout L
  pub dict : Dictionary
  pub reply : Reply
  pub told : List (List ℕ)
  pub granted : List Grant

-- a reply that changes nothing
abbrev pub seat_with_reply : {L : Type 0} → Seat L → Reply → DictChanged L
seat_with_reply s reply = record { region = s.region; dict = s.dict; reply = reply; told = []; granted = [] }

abbrev pub seat_with_refusal : {L : Type 0} → Seat L → Refusal → DictChanged L
seat_with_refusal s why = seat_with_reply s (Refused why)
