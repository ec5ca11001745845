-- What opening a region does to the state, and to the settled shelf.
use Rattle.vc_base.proofs.Common.{◌≡◌, ℕ, ◌-◌, ◌≤◌, Bool, true, false, cond, List, [], ◌∷◌, ◌++◌, map, length, take, set, is_some, slice_get, Some, None, Option, option_map, sym, refl, ap, ◌∙◌, subst, append-nil, arith, set-set, map-append, map-set, slice_get-map, AllByRecursion, list_any, Blocks, Discipline, Block, at_number, HaveOwnPlaces}
use Rattle.vc_base.proofs.Lists.{slice_get-set}
use Rattle.vc_dtdisc.specs.Rules.{Rules}
use Rattle.vc_region.specs.Cells.{rest_of}
use Rattle.vc_region.specs.Region.{Region, blocks_of, region_with_labels, segments_of}
use Rattle.vc_region.specs.Stat.{opened_region}
use Rattle.vc_seg.specs.declared.method.Method.{Method}
use Rattle.vc_seg.specs.declared.method.Method.TheVariants.{VmBest, VmPool, VmLast, VmDebug, VmProfile}
use Rattle.vc_seg.specs.Shelf.{place_at, standing}
use Rattle.vc_seg.specs.declared.shelf.ShelfPlace.TheVariants.{Here}
use Rattle.vc_script.specs.declared.reply.Reply.TheVariants.{Opened}
use Rattle.vc_script.specs.declared.refusal.Refusal.TheVariants.{RegionExists}
use Rattle.vc_steps.specs.State.{State, open_step, opened_over, step_with_refusal, step_with_reply}
use Rattle.vc_views.specs.Views.{DictHome}
use Rattle.vc_commands.specs.Home.{Home, Label, is_home}
use Rattle.slab.specs.Slab.{slab_len}
use Rattle.vc_commands.specs.declared.region.labels.Labels.{Labels}
use Rattle.vc_commands.specs.Labels.{AreLabels, kept_of, name_of_tag, tag_of}
use Rattle.vc_steps.specs.Account.{Account, IsSession, account, accounts, account_after, asked_of, settled_accounts, state_of}
use Rattle.vc_commands.specs.Held.{Held, IsLive, AreLabelsOf, home_of, tag_count}
use Rattle.vc_steps.specs.State.{not_here as why_not}
use Rattle.vc_steps.proofs.Cells.{at_number-from_one, at_number_some, at_number-map, set_same}
use Rattle.vc_commands.proofs.Answers.{front-out}
use Rattle.vc_commands.proofs.Names.{has-label-any, named_by}
use Rattle.vc_steps.proofs.Settle.{settled-push, settled-set, settled-keeps, off-apart, Off}
use Rattle.vc_model.specs.Discipline.{armed_as}
use Rattle.vc_views.proofs.LinkLists.{map-set_same}
use Rattle.vc_steps.proofs.CloseLeaves.{elsewhere, session-closed}
use Rattle.vc_steps.proofs.Sessions.{Slots, apart-session, away-session, session-push}

-- a new region has no labels, no segments and no blocks
pub opened-relabelled : (f : ℕ → Label) (m : Method) → region_with_labels f (opened_region m) ≡ opened_region m
opened-relabelled f VmBest = refl
opened-relabelled f VmPool = refl
opened-relabelled f VmLast = refl
opened-relabelled f VmDebug = refl
opened-relabelled f VmProfile = refl

pub opened-segments : (m : Method) → segments_of {L = ℕ} (opened_region m) ≡ []
opened-segments VmBest = refl
opened-segments VmPool = refl
opened-segments VmLast = refl
opened-segments VmDebug = refl
opened-segments VmProfile = refl

pub opened-blocks : (m : Method) → blocks_of {L = ℕ} (opened_region m) ≡ []
opened-blocks VmBest = refl
opened-blocks VmPool = refl
opened-blocks VmLast = refl
opened-blocks VmDebug = refl
opened-blocks VmProfile = refl

-- nor has it cells
pub opened-rest : (m : Method) → rest_of (opened_region m) ≡ opened_region m
opened-rest VmBest = refl
opened-rest VmPool = refl
opened-rest VmLast = refl
opened-rest VmDebug = refl
opened-rest VmProfile = refl

-- labels with no name
pub record AreNone (labels : Labels) : Type 0 where
  pub agree : AreLabels labels
  pub names : (x : List ℕ) → tag_of labels x ≡ None
  pub count : slab_len labels.by_tag ≡ 0
  pub kept : kept_of labels ≡ []

none_places : (bs : List (Block ℕ)) → bs ≡ [] → HaveOwnPlaces bs
none_places bs e =
    subst (λ cs. HaveOwnPlaces cs) (sym e)
    (record {
      distinct = λ i j d lt within. absurd (omega (arith, within));
      first = λ i d within. absurd (omega (arith, within));
      exact = λ i d within. absurd (omega (arith, within));
    })

-- no names, of no block
pub none-named : (r : Region ℕ) (labels : Labels) → AreNone labels → blocks_of r ≡ [] → AreLabelsOf r labels
none-named r labels none e =
    record {
      agree = none.agree;
      count = ap tag_count e ∙ sym none.count;
      live = subst (AllByRecursion (λ b. 1 ≤ b.label → IsLive labels b)) (sym e) tt;
      known = λ x. ap is_some (none.names x) ∙ sym (has-label-any (name_of_tag labels) x r ∙ ap (list_any (named_by (name_of_tag labels) x)) e);
      places = none_places (blocks_of r) e;
      none = λ keeps. none.kept;
    }

-- a region that was just opened
abbrev pub fresh : List ℕ → ℕ → Discipline → Region ℕ → Blocks → Labels → Held
fresh name n d region cells labels = record { name = name; place = n; disc = d; region = region; cells = cells; labels = labels }

-- a discipline that was armed so where it stands on the shelf
module _ (on : Bool) (slots : Slots) (n : ℕ) (d : Discipline) (at : at_number slots n ≡ Some (Some d)) where
  abbrev pub armed-slots : Slots
  armed-slots = set slots (n - 1) (Some (armed_as on d))

  there-armed : slice_get slots (n - 1) ≡ Some (Some d)
  there-armed = (at_number_some slots n (Some d) at).1

  pub at-armed : at_number armed-slots n ≡ Some (Some (armed_as on d))
  at-armed = at_number-from_one armed-slots n (at_number_some slots n (Some d) at).0 ∙ slice_get-set slots (n - 1) (Some d) (Some (armed_as on d)) there-armed

  -- it has the account that it had, and the shelf tells the same terms
  pub accounts-armed : accounts armed-slots ≡ accounts slots
  accounts-armed = map-set_same (option_map account) slots (n - 1) (Some d) (Some (armed_as on d)) there-armed refl

  pub state-armed : (kinds : List Rules) (hs : List Held) (ds : List DictHome) → state_of kinds armed-slots hs ds ≡ state_of kinds slots hs ds
  state-armed kinds hs ds =
      ap (λ rs. let s : State = record (state_of kinds slots hs ds) { shelf = rs } in s)
      (map-set_same (option_map (λ (e : Discipline). e.terms)) slots (n - 1) (Some d) (Some (armed_as on d)) there-armed refl)

  -- the open regions still hold theirs
  pub session-armed : (armed : Bool) (hs : List Held) → IsSession armed slots hs → IsSession armed armed-slots hs
  session-armed armed hs session =
      session-closed armed slots armed-slots n hs (elsewhere slots n (armed_as on d) at) (away-session armed slots n d hs at session) session

module _ (armed : Bool) (slots : Slots) (hs : List Held) (name : List ℕ) (n : ℕ) (d : Discipline) (m : Method) (region : Region ℕ) (is : region ≡ opened_region m) (cells : Blocks) (labels : Labels) (none : AreNone labels) (at : at_number slots n ≡ Some (Some d)) (so : d.exceptions.armed ≡ armed) (session : IsSession armed slots hs) where
  segments : segments_of region ≡ []
  segments = ap (λ r. segments_of r) is ∙ opened-segments m

  low : 1 ≤ n
  low = (at_number_some slots n (Some d) at).0

  there : slice_get slots (n - 1) ≡ Some (Some d)
  there = (at_number_some slots n (Some d) at).1

  pub open_step-ok : (kinds : List Rules) (ds : List DictHome) → list_any (is_home name) (map home_of hs) ≡ false → open_step (state_of kinds slots hs ds) name m n ≡ step_with_reply (state_of kinds (set slots (n - 1) None) (hs ++ fresh name n d region cells labels ∷ []) ds) (Opened name)
  open_step-ok kinds ds new =
      let r : Region Label = region_with_labels (name_of_tag labels) region in
      let same : r ≡ opened_region m = ap (region_with_labels (name_of_tag labels)) is ∙ opened-relabelled (name_of_tag labels) m in
      ap (λ q. cond (list_any (is_home name) (map home_of hs)) (step_with_refusal (state_of kinds slots hs ds) RegionExists) (opened_over (state_of kinds slots hs ds) name n q (at_number (state_of kinds slots hs ds).shelf n))) (sym same)
      ∙ (ap (λ b. cond b (step_with_refusal (state_of kinds slots hs ds) RegionExists) (opened_over (state_of kinds slots hs ds) name n r (at_number (state_of kinds slots hs ds).shelf n))) new
      ∙ (ap (opened_over (state_of kinds slots hs ds) name n r) (at_number-map (option_map (λ e. e.terms)) slots n ∙ ap (option_map (option_map (λ e. e.terms))) at)
      ∙ (ap (λ kept. step_with_reply (record (state_of kinds slots hs ds) { shelf = set (state_of kinds slots hs ds).shelf (n - 1) None; homes = map home_of hs ++ (let b : Home = record { name = name; place = n; terms = d.terms; region = r; kept = kept } in b) ∷ [] }) (Opened name)) (sym none.kept)
      ∙ (ap (λ shelf. step_with_reply (record (state_of kinds slots hs ds) { shelf = shelf; homes = map home_of hs ++ home_of (fresh name n d region cells labels) ∷ [] }) (Opened name)) (sym (map-set (option_map (λ (e : Discipline). e.terms)) slots (n - 1) None))
      ∙ ap (λ homes. step_with_reply (record (state_of kinds slots hs ds) { shelf = map (option_map (λ e. e.terms)) (set slots (n - 1) None); homes = homes }) (Opened name)) (sym (map-append home_of hs (fresh name n d region cells labels ∷ [])))))))

  pub session-open : IsSession armed (set slots (n - 1) None) (hs ++ fresh name n d region cells labels ∷ [])
  session-open =
      session-push armed slots (n - 1) (Some d) hs (fresh name n d region cells labels) there session (away-session armed slots n d hs at session)
      (record {
        place = at_number-from_one (set slots (n - 1) None) n low ∙ slice_get-set slots (n - 1) (Some d) None there;
        armed_so = so;
        lent = (d.out, sym (append-nil d.out) ∙ ap (λ s. d.out ++ s) (sym segments));
        names = none-named region labels none (ap (λ r. blocks_of r) is ∙ opened-blocks m);
      })

  pub settled-open : settled_accounts (accounts (set slots (n - 1) None)) (hs ++ fresh name n d region cells labels ∷ []) ≡ settled_accounts (accounts slots) hs
  settled-open =
      let off : Off (n - 1) hs = off-apart n hs low (away-session armed slots n d hs at session) (apart-session armed slots hs session) in
      let all : take (length d.out - length (segments_of region)) d.out ≡ d.out =
      front-out d.out (segments_of region) d.out (sym (append-nil d.out) ∙ ap (λ s. d.out ++ s) (sym segments)) in
      let account_is : account_after (fresh name n d region cells labels) ≡ account d = ap (λ out. let a : Account = record { out = out; terms = d.terms; faults = d.faults; asked = asked_of d } in a) all in
      let kept : slice_get (settled_accounts (accounts slots) hs) (n - 1) ≡ Some (Some (account_after (fresh name n d region cells labels))) =
      settled-keeps (accounts slots) (n - 1) hs off ∙ (slice_get-map (option_map account) slots (n - 1) ∙ (ap (option_map (option_map account)) there ∙ ap (λ a. Some (Some a)) (sym account_is))) in
      settled-push (accounts (set slots (n - 1) None)) hs (fresh name n d region cells labels)
      ∙ (ap (λ shelf. set (settled_accounts shelf hs) (n - 1) (Some (account_after (fresh name n d region cells labels)))) (map-set (option_map account) slots (n - 1) None)
      ∙ (ap (λ shelf. set shelf (n - 1) (Some (account_after (fresh name n d region cells labels)))) (settled-set (accounts slots) (n - 1) None hs off)
      ∙ (set-set (settled_accounts (accounts slots) hs) (n - 1) None (Some (account_after (fresh name n d region cells labels)))
      ∙ set_same (settled_accounts (accounts slots) hs) (n - 1) (Some (account_after (fresh name n d region cells labels))) kept)))

pub open_step-named : (s : State) (name : List ℕ) (m : Method) (n : ℕ) → list_any (is_home name) s.homes ≡ true → open_step s name m n ≡ step_with_refusal s RegionExists
open_step-named s name m n named =
    ap (λ b. cond b (step_with_refusal s RegionExists) (opened_over s name n (opened_region m) (at_number s.shelf n))) named

opened_over-not_here : (s : State) (name : List ℕ) (n : ℕ) (r : Region Label) (o : Option (Option Discipline)) → (standing o ≡ Here → ⊥) → opened_over s name n r (option_map (option_map (λ d. d.terms)) o) ≡ step_with_refusal s (why_not (standing o))
opened_over-not_here s name n r None not_here = refl
opened_over-not_here s name n r (Some None) not_here = refl
opened_over-not_here s name n r (Some (Some d)) not_here = absurd (not_here refl)

-- no discipline is here at the number
pub open_step-not_here : (kinds : List Rules) (slots : Slots) (hs : List Held) (ds : List DictHome) (name : List ℕ) (m : Method) (n : ℕ) → list_any (is_home name) (map home_of hs) ≡ false → (place_at slots n ≡ Here → ⊥) → open_step (state_of kinds slots hs ds) name m n ≡ step_with_refusal (state_of kinds slots hs ds) (why_not (place_at slots n))
open_step-not_here kinds slots hs ds name m n new not_here =
    let r : Region Label = opened_region m in
    ap (λ b. cond b (step_with_refusal (state_of kinds slots hs ds) RegionExists) (opened_over (state_of kinds slots hs ds) name n r (at_number (state_of kinds slots hs ds).shelf n))) new
    ∙ (ap (opened_over (state_of kinds slots hs ds) name n r) (at_number-map (option_map (λ e. e.terms)) slots n) ∙ opened_over-not_here (state_of kinds slots hs ds) name n r (at_number slots n) not_here)
