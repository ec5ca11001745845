-- A session over an image: its names are proper, and a run begins with it.
use Rattle.vc_base.proofs.Common.{◌≡◌, ℕ, ◌≤◌, true, List, [], ◌∷◌, map, length, leb, decimal, None, Ok, Err, Result, sym, refl, ap, ◌∙◌, subst, arith, inl, inr, eqb_tells, and_from, and_parts, le-leb, leb-true, list_all, Block, Layout, Discipline, relabel_block}
use Rattle.std.proofs.lemmas.Fmt.{length-decimal-le}
use Rattle.vc_base.specs.Memory.{MemorySink}
use Rattle.vc_best.specs.Blocks.{layout_by}
use Rattle.vc_best.specs.Cells.{zeroed_layout}
use Rattle.vc_commands.specs.Blocks.{label_limit}
use Rattle.vc_commands.specs.Home.{Label}
use Rattle.vc_commands.specs.Tagged.{have_own_tags, is_own_tag, name_by_tag, text_by_tag}
use Rattle.vc_dtdisc.specs.Rules.{Gone, Rules}
use Rattle.vc_image_check.specs.Bytes.Contents.{contents_of_image}
use Rattle.vc_image_run.proofs.Ended.{saves-arms, saves-at_rest}
use Rattle.vc_image_run.specs.Script.Over.{BeginsWith, Remakes}
use Rattle.vc_image_run.specs.Script.Promises.{Saves}
use Rattle.vc_image_run.specs.declared.script.fault.ScriptFault.{ScriptFault}
use Rattle.vc_image_run.specs.declared.script.over_fault.OverFault.{OverFault}
use Rattle.vc_image_run.specs.declared.script.over_fault.OverFault.TheVariants.{Script}
use Rattle.vc_image_run.specs.Session.Opens.{OpensImage, has_own_tags}
use Rattle.vc_image_run.specs.Session.State.{image_state}
use Rattle.vc_model.specs.Discipline.{Terms}
use Rattle.vc_region.specs.Region.{OfBest}
use Rattle.vc_script.proofs.Heads.{digit-name}
use Rattle.vc_script.proofs.Newlines.{list_all-decimal}
use Rattle.vc_script.specs.Words.{is_name, is_name_byte}
use Rattle.vc_script.specs.declared.tool.Tool.TheVariants.{Dtrun}
use Rattle.vc_seg.specs.declared.shelf.Shelf.{Shelf}
use Rattle.vc_session.proofs.HowFar.{first-arms}
use Rattle.vc_session.proofs.SessionLasts.{lent-ended}
use Rattle.vc_session.specs.Arming.{IsVersionOne, KeepsLent, RunsArming}
use Rattle.vc_session.specs.ProperState.{IsProperOver, IsProperState, name_or_none}
use Rattle.vc_session.specs.Streams.{Flows}
use Rattle.vc_steps.specs.Account.{ArmsNone}
use Rattle.vc_steps.specs.Homes.{accounts_on, settled_over, slots_on, state_on, state_over}
use Rattle.vc_steps.specs.Moment.{Moment, moment, moment_at_end, moment_at_rest}
use Rattle.vc_steps.specs.Told.{KeepRules, ended_told, gone_in, rules_in, tell}
use Rattle.vc_steps.specs.State.{State}
use Rattle.vc_steps.specs.declared.session.Session.{Session}

-- the letter `b` and a tag are a name
text-name : (tag : ℕ) → tag ≤ label_limit → is_name (text_by_tag tag) ≡ true
text-name tag low =
    let digits = decimal tag in
    let at_most : length digits ≤ 7 = length-decimal-le 7 tag (omega arith) (omega (arith, low)) (omega arith) in
    let short : length digits ≤ 31 = omega (arith, at_most) in
    and_from (list_all is_name_byte digits) (leb (length digits) 31) (digit-name digits (list_all-decimal tag)) (le-leb _ _ short)

-- so it is none of those that are taken away
name-kept : (tag : ℕ) (others : List (Block ℕ)) → is_own_tag tag others ≡ true → name_or_none (name_by_tag tag) ≡ name_by_tag tag
name-kept tag others own = elim (eqb_tells tag 0) as (λ _. name_or_none (name_by_tag tag) ≡ name_by_tag tag) [
  | inl same ↦ rw same.0 refl
  | inr other ↦
      let low : tag ≤ label_limit = leb-true tag label_limit (and_parts (leb tag label_limit) _ (rw other.0 at own)).0 in
      rw (other.0, text-name tag low) refl
]

names-kept : (bs : List (Block ℕ)) → have_own_tags bs ≡ true → map (relabel_block name_or_none) (map (relabel_block name_by_tag) bs) ≡ map (relabel_block name_by_tag) bs
names-kept [] own = refl
names-kept (b ∷ bs) own =
    ap (λ (l : Label). relabel_block (λ (t : ℕ). l) b ∷ map (relabel_block name_or_none) (map (relabel_block name_by_tag) bs)) (name-kept b.label bs (and_parts (is_own_tag b.label bs) (have_own_tags bs) own).0)
    ∙ ap (λ cs. relabel_block name_by_tag b ∷ cs) (names-kept bs (and_parts (is_own_tag b.label bs) (have_own_tags bs) own).1)

-- the state of an image
proper-state : (s : State) (place : ℕ) (terms : Terms) (image : List ℕ) → has_own_tags image ≡ true → IsProperState (image_state s place terms image)
proper-state s place terms image own =
    let r : Layout ℕ = zeroed_layout (layout_by (contents_of_image image).segs) in
    ((ap (λ bs. OfBest (record { segments = r.segments; blocks = bs })) (names-kept r.blocks own), tt, tt, refl), tt)

-- the answer of a run over an image
abbrev over_answer : Result MemorySink ScriptFault → Result MemorySink OverFault
over_answer (Ok image) = Ok image
over_answer (Err why) = Err (Script why)

-- what was opened
module _ {I : Type 0} {V : I → Type 0} {D : Type 0} {meaning : (x : I) × V x → Discipline} {rules : D → Rules} {place : ℕ} {image : List ℕ} {shelf shelf' : Shelf I V} {kinds : List D} {session : Session D I V} (o : OpensImage meaning rules place image shelf kinds shelf' session) where
  pub opened-proper : IsProperOver meaning rules shelf' session kinds
  opened-proper = record {
    stands = o.stands;
    proper = subst IsProperState (sym o.is.state_is) (proper-state (state_on meaning (map rules kinds) shelf) place o.is.disc.terms image o.is.tags);
  }

  begins-with : (gone : D → Gone) → BeginsWith rules gone place image (slots_on meaning shelf) kinds (moment meaning rules gone shelf' session kinds)
  begins-with gone = record { is = o.is; gone_is = refl; unarmed = o.unarmed }

  -- a run from there, and then the session's end
  module _ (gone : D → Gone) (shelf'' after : Shelf I V) (session' : Session D I V) (kinds' last : List D) (answer : Result MemorySink ScriptFault) (old new : Flows)
      (ran : RunsArming meaning rules gone shelf' session kinds shelf'' session' kinds' (λ (s l : Moment). Saves (map rules kinds') answer s (moment_at_end l) old new))
      (ends : accounts_on meaning after ≡ settled_over meaning shelf'' session')
      (told : gone_in gone last ≡ tell (ended_told (state_over meaning (rules_in rules kinds') shelf'' session')) (gone_in gone kinds')) where
    abbrev start : Moment
    start = moment meaning rules gone shelf' session kinds

    abbrev ended : Moment
    ended = moment meaning rules gone shelf'' session' kinds'

    abbrev at_rest : Moment
    at_rest = moment_at_rest meaning rules gone after last

    saves-over : Saves (map rules kinds) answer start at_rest old new
    saves-over =
        saves-at_rest start start (moment_at_end ended) at_rest old new refl
        (λ written. record { written = refl; accounts = ends; gone = told }) refl (map rules kinds) answer
        (subst (λ ks. Saves ks answer start (moment_at_end ended) old new) ran.lasts.lasts.keeps_rules ran.runs)

    pub remakes-over : (r : Result MemorySink ScriptFault) → answer ≡ r → Remakes rules gone place image (slots_on meaning shelf) kinds (over_answer r) (slots_on meaning after) last old new
    remakes-over (Ok image) is = record { start = start; begins = begins-with gone; ran_to = subst (λ r. Saves (map rules kinds) r start at_rest old new) is saves-over }
    remakes-over (Err why) is = record { start = start; begins = begins-with gone; ran_to = subst (λ r. Saves (map rules kinds) r start at_rest old new) is saves-over }

    pub keeps-over : ArmsNone (slots_on meaning shelf) (slots_on meaning shelf') → KeepRules rules kinds' last → ArmsNone (slots_on meaning shelf'') (slots_on meaning after) → KeepsLent meaning rules gone (IsVersionOne None Dtrun old.left) shelf kinds after last
    keeps-over arms same unarmed =
        lent-ended meaning rules gone shelf shelf' session kinds o.is.keeps o.is.asked arms ran.lasts
        (first-arms Dtrun old.left ended (saves-arms (map rules kinds') start (moment_at_end ended) old new answer ran.runs)) ends same unarmed
