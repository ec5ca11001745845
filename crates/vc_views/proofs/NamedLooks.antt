-- What is looked for among objects under other names for their dictionaries is the same.
use Rattle.vc_base.proofs.Common.{◌≡◌, Bool, List, map, if◌then◌else◌, Some, None, Option, option_map, refl, ap, ◌∙◌, map-map}
use Rattle.vc_dtdisc.specs.Rules.{Rules}
use Rattle.vc_dtdisc.proofs.FindingLemmas.{first_of-map, last_of-map, option_by}
use Rattle.vc_dtdisc.proofs.ObjectsLemmas.{before_key-map, behind_key-map, first_with-map}
use Rattle.vc_paths.specs.Visible.{Seen, rename, seen_bytes}
use Rattle.vc_script.specs.declared.command.Command.{Command}
use Rattle.vc_script.specs.declared.command.Command.TheVariants.{Search, MatchKey, First, Last, Next, Prev, Walk}
use Rattle.vc_script.specs.declared.refusal.Refusal.TheVariants as why
use Rattle.vc_script.specs.declared.reply.Reply.TheVariants.{Objects, Refused}
use Rattle.vc_commands.specs.Looking.{found_by_command, found_reply, is_askable, look_answer, look_found, look_reply, own_place}

module _ {N M : Type 0} (r : N → M) where
  found_by_command-renamed : (rules : Rules) (command : Command) (seen : List (Seen N)) → found_by_command rules command (map (rename r) seen) ≡ option_map (rename r) (found_by_command rules command seen)
  found_by_command-renamed rules (Search d bytes) seen = first_with-map (rename r) seen_bytes rules (rules.key bytes) seen
  found_by_command-renamed rules (MatchKey d key) seen = first_with-map (rename r) seen_bytes rules key seen
  found_by_command-renamed rules (First d) seen = first_of-map (rename r) seen
  found_by_command-renamed rules (Last d) seen = last_of-map (rename r) seen
  found_by_command-renamed rules (Next d bytes) seen = behind_key-map (rename r) seen_bytes rules (rules.key bytes) seen
  found_by_command-renamed rules (Prev d bytes) seen = before_key-map (rename r) seen_bytes rules (rules.key bytes) seen
  found_by_command-renamed rules command seen = refl

  -- the same object is found, renamed
  pub look_found-renamed : (rules : Rules) (command : Command) (seen : List (Seen N)) → look_found rules command (map (rename r) seen) ≡ option_map (rename r) (look_found rules command seen)
  look_found-renamed rules command seen =
      option_by (rename r) (is_askable command) (found_by_command rules command seen) None (found_by_command rules command (map (rename r) seen)) None
      (found_by_command-renamed rules command seen) refl

  found_reply-renamed : (o : Option (Seen N)) → found_reply (option_map (rename r) o) ≡ found_reply o
  found_reply-renamed None = refl
  found_reply-renamed (Some o) = refl

  found-renamed : (rules : Rules) (command : Command) (seen : List (Seen N)) → found_reply (found_by_command rules command (map (rename r) seen)) ≡ found_reply (found_by_command rules command seen)
  found-renamed rules command seen = ap (λ o. found_reply o) (found_by_command-renamed rules command seen) ∙ found_reply-renamed (found_by_command rules command seen)

  look_answer-renamed : (rules : Rules) (command : Command) (seen : List (Seen N)) → look_answer rules command (map (rename r) seen) ≡ look_answer rules command seen
  look_answer-renamed rules (Walk d) seen = ap (λ objects. Objects objects) (map-map seen_bytes (rename r) seen)
  look_answer-renamed rules command seen = found-renamed rules command seen

  -- so is the reply
  pub look_reply-renamed : (rules : Rules) (command : Command) (seen : List (Seen N)) → look_reply rules command (map (rename r) seen) ≡ look_reply rules command seen
  look_reply-renamed rules command seen =
      ap (λ reply. if is_askable command then reply else Refused why.Size) (look_answer-renamed rules command seen)

  module _ (own : N → Bool) (renamed_own : M → Bool) (same : (n : N) → renamed_own (r n) ≡ own n) where
    own_place-renamed : (o : Option (Seen N)) → own_place renamed_own (option_map (rename r) o) ≡ own_place own o
    own_place-renamed None = refl
    own_place-renamed (Some o) = ap (λ t. if t then Some o.at else None) (same o.dict)

    -- and so is the place of what is found, where a test tells the first dictionary by both names
    pub look_place-renamed : (rules : Rules) (command : Command) (seen : List (Seen N))
        → own_place renamed_own (look_found rules command (map (rename r) seen)) ≡ own_place own (look_found rules command seen)
    look_place-renamed rules command seen =
        ap (λ o. own_place renamed_own o) (look_found-renamed rules command seen) ∙ own_place-renamed (look_found rules command seen)
