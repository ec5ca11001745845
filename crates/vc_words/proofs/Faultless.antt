-- Words at which a simple command has no fault are words that it takes, as far as the words tell.
use Rattle.vc_base.proofs.Common.{◌≡◌, ℕ, zero, suc, Bool, true, false, cond, not, ◌&&◌, ◌||◌, List, [], ◌∷◌, length, drop, is_some, nat_lt, nat_le, ◌==◌, slice_get, Some, None, Option, chars, encode_utf8, bytes_eq, refl, ap, arith, ltb-false, eqb-true, le-leb, and_from, list_all}
use Rattle.std.specs.Option.{option_map_or}
use Rattle.clap.specs.Facts.{unwrap_or_range}
use Rattle.clap.specs.Faults.{action_fault, bundle_step_fault, flag_word_fault, flags_fault, long_fault, option_fault, other_fault, positional_fault, react_fault, repeat_fault, settle_fault, short_fault, step_fault, stray_fault, turn_fault, use_fault, values_fault, walk_fault, word_fault}
use Rattle.clap.specs.Kinds.{Kinds, or_else, range_kinds, value_kinds, values_kinds}
use Rattle.clap.specs.Lexer.{long_of, short_of}
use Rattle.clap.specs.Takes.{action_passes, bundle_step_passes, flag_word_passes, flags_pass, long_passes, option_passes, other_passes, positional_passes, react_passes, settle_passes, short_passes, step_passes, turn_passes, use_passes, values_pass, walk_passes, word_passes}
use Rattle.clap.specs.Values.{refused_kind}
use Rattle.clap.specs.ValueTests.{accepts}
use Rattle.clap.specs.Walk.{Held, Names, Row, Rule, Step, Text, Waiting, Walk, action_of, arg_by_id, arg_by_index, arg_by_long, arg_by_short, attached_value, has_row, is_pending, most_values, next, reacted, settled, subcommand, subcommand_met, takes_several, takes_values, trailing, value, values_or_missing, walked, word_met}
use Rattle.clap.specs.Simple.{Shape}
use Rattle.clap.specs.declared.builder.action.ArgAction.{ArgAction}
use Rattle.clap.specs.declared.builder.action.ArgAction.TheVariants as action
use Rattle.clap.specs.declared.builder.value_parser.ValueParser.{ValueParser}
use Rattle.clap.specs.declared.error.kind.ErrorKind.{ErrorKind}

-- ---- lists of kinds

fault_stays : {P : Type 0} (k : ErrorKind) (ks : Kinds) → k ∷ ks ≡ [] → P
fault_stays k ks e =
    let bad : suc (length ks) ≡ 0 = ap length e in
    absurd (omega arith)

pub none_of_both : (a b : Kinds) → or_else a b ≡ [] → (a ≡ []) × (b ≡ [])
none_of_both [] b e = (refl, e)
none_of_both (k ∷ ks) b e = fault_stays k ks e

holds : (b : Bool) (k : ErrorKind) → cond b [] (k ∷ []) ≡ [] → b ≡ true
holds true k e = refl
holds false k e = fault_stays k [] e

unless : (b p : Bool) (ks : Kinds) → (ks ≡ [] → p ≡ true) → cond b [] ks ≡ [] → (b || p) ≡ true
unless true p ks then e = refl
unless false p ks then e = then e

allowed : (b other : Bool) (k : ErrorKind) (ks : Kinds) → cond (b && not other) (k ∷ ks) [] ≡ [] → (not b || other) ≡ true
allowed true true k ks e = refl
allowed true false k ks e = fault_stays k ks e
allowed false other k ks e = refl

-- ---- one use of an argument

values_hold : (i : Bool) (p : ValueParser) (vs : List Text) → values_kinds i p vs ≡ [] → list_all (accepts i p) vs ≡ true
values_hold i p [] e = refl
values_hold i p (v ∷ vs) e =
    let parts = none_of_both (value_kinds i p v) (values_kinds i p vs) e in
    and_from (accepts i p v) (list_all (accepts i p) vs) (holds (accepts i p v) (refused_kind p) parts.0) (values_hold i p vs parts.1)

range_holds : (least most n : ℕ) → range_kinds least most n ≡ [] → (nat_le least n ≡ true) × (nat_le n most ≡ true)
range_holds least most n e = go _ _ _ _ (nat_lt 0 least && n == 0) (least == most) (least == n) (nat_lt n least) (nat_lt most n) refl refl refl refl e
  where
    go : (k l m j : ErrorKind) (none same right few many : Bool) → (least == most) ≡ same → (least == n) ≡ right → nat_lt n least ≡ few → nat_lt most n ≡ many
        → cond none (k ∷ []) (cond same (cond right [] (l ∷ [])) (cond few (m ∷ []) (cond many (j ∷ []) []))) ≡ []
        → (nat_le least n ≡ true) × (nat_le n most ≡ true)
    go k l m j true same right few many a b c d e = fault_stays _ _ e
    go k l m j false true true few many a b c d e =
        let most_is = eqb-true least most a in
        let n_is = eqb-true least n b in
        (le-leb least n (omega arith), le-leb n most (omega arith))
    go k l m j false true false few many a b c d e = fault_stays _ _ e
    go k l m j false false right true many a b c d e = fault_stays _ _ e
    go k l m j false false right false true a b c d e = fault_stays _ _ e
    go k l m j false false right false false a b c d e =
        let enough = ltb-false n least c in
        let not_more = ltb-false most n d in
        (le-leb least n (omega arith), le-leb n most (omega arith))

set_holds : (again : Bool) (a : Rule) (values : List Text) (rows : List Row) → or_else (repeat_fault again a.id rows) (values_fault a values) ≡ []
    → ((not (has_row a.id rows) || again) && values_pass a values) ≡ true
set_holds again a values rows e =
    let parts = none_of_both (repeat_fault again a.id rows) (values_fault a values) e in
    and_from _ _ (allowed (has_row a.id rows) again _ _ parts.0) (values_hold _ _ values parts.1)

action_holds : (x : ArgAction) (again : Bool) (a : Rule) (values : List Text) (rows : List Row) → action_fault x again a values rows ≡ []
    → action_passes x again a values rows ≡ true
action_holds action.Set again a values rows e = set_holds again a values rows e
action_holds action.SetTrue again a values rows e = set_holds again a values rows e
action_holds action.SetFalse again a values rows e = set_holds again a values rows e
action_holds action.Append again a values rows e = values_hold _ _ values e
action_holds action.Count again a [] rows e = holds _ _ e
action_holds action.Count again a (v ∷ vs) rows e = values_hold _ _ (v ∷ vs) e
action_holds action.Help again a values rows e = fault_stays _ _ e
action_holds action.HelpShort again a values rows e = fault_stays _ _ e
action_holds action.HelpLong again a values rows e = fault_stays _ _ e
action_holds action.Version again a values rows e = fault_stays _ _ e

use_holds : (again : Bool) (a : Rule) (values : List Text) (rows : List Row) → use_fault again a values rows ≡ [] → use_passes again a values rows ≡ true
use_holds again a values rows e =
    let parts = none_of_both (range_kinds (unwrap_or_range a.range).start_inclusive (most_values a) (length values)) _ e in
    let range = range_holds (unwrap_or_range a.range).start_inclusive (most_values a) (length values) parts.0 in
    and_from _ _ range.0 (and_from _ _ range.1 (action_holds (action_of a) again a (values_or_missing a values) rows parts.1))

-- ---- the walk

pub settle_holds : (c : List Rule) (again : Bool) (h : Held) → settle_fault c again h ≡ [] → settle_passes c again h ≡ true
settle_holds c again h e = go h.pending e
  where
    by_rule : (p : Text × List Text) (found : Option Rule) → option_map_or (λ a. use_fault again a p.1 h.rows) found [] ≡ []
        → option_map_or (λ a. use_passes again a p.1 h.rows) found true ≡ true
    by_rule p None e = refl
    by_rule p (Some a) e = use_holds again a p.1 h.rows e

    go : (pending : Option (Text × List Text))
        → option_map_or (λ p. option_map_or (λ a. use_fault again a p.1 h.rows) (arg_by_id c p.0) []) pending [] ≡ []
        → option_map_or (λ p. option_map_or (λ a. use_passes again a p.1 h.rows) (arg_by_id c p.0) true) pending true ≡ true
    go None e = refl
    go (Some p) e = by_rule p (arg_by_id c p.0) e

react_holds : (c : List Rule) (again : Bool) (a : Rule) (values : List Text) (h : Held) → react_fault c again a values h ≡ [] → react_passes c again a values h ≡ true
react_holds c again a values h e =
    let parts = none_of_both (settle_fault c again h) _ e in
    and_from _ _ (settle_holds c again h parts.0) (use_holds again a values (settled c h).rows parts.1)

option_holds : (c : List Rule) (again : Bool) (a : Rule) (v : Option Text) (h : Held) → option_fault c again a v h ≡ [] → option_passes c again a v h ≡ true
option_holds c again a (Some v) h e = react_holds c again a (v ∷ []) h e
option_holds c again a None h e = settle_holds c again h e

long_holds : (c : List Rule) (again : Bool) (found : Option Rule) (v : Option Text) (h : Held) → long_fault c again found v h ≡ [] → long_passes c again found v h ≡ true
long_holds c again None v h e = fault_stays _ _ e
long_holds c again (Some a) v h e = go _ (takes_values a) v e
  where
    go : (k : ErrorKind) (takes : Bool) (v : Option Text)
        → cond takes (option_fault c again a v h) (cond (is_some v) (k ∷ []) (react_fault c again a [] h)) ≡ []
        → cond takes (option_passes c again a v h) (not (is_some v) && react_passes c again a [] h) ≡ true
    go k true v e = option_holds c again a v h e
    go k false (Some v) e = fault_stays _ _ e
    go k false None e = react_holds c again a [] h e

short_holds : (c : List Rule) (again : Bool) (found : Option Rule) (rest : Text) (h : Held) (faults : Held → Kinds) (passes : Held → Bool)
    → ((now : Held) → faults now ≡ [] → passes now ≡ true) → short_fault c again found rest h faults ≡ [] → short_passes c again found rest h passes ≡ true
short_holds c again None rest h faults passes more e = fault_stays _ _ e
short_holds c again (Some a) rest h faults passes more e = go (takes_values a) e
  where
    go : (takes : Bool)
        → cond takes (option_fault c again a (attached_value rest) h) (or_else (react_fault c again a [] h) (faults (reacted c a [] h))) ≡ []
        → cond takes (option_passes c again a (attached_value rest) h) (react_passes c again a [] h && passes (reacted c a [] h)) ≡ true
    go true e = option_holds c again a (attached_value rest) h e
    go false e =
        let parts = none_of_both (react_fault c again a [] h) _ e in
        and_from _ _ (react_holds c again a [] h parts.0) (more (reacted c a [] h) parts.1)

bundle_holds : (c : List Rule) (again : Bool) (first : Option ℕ) (flags : Text) (skip : ℕ) (h : Held) (faults : Text → ℕ → Held → Kinds) (passes : Text → ℕ → Held → Bool)
    → ((rest : Text) (less : ℕ) (now : Held) → faults rest less now ≡ [] → passes rest less now ≡ true)
    → bundle_step_fault c again first flags skip h faults ≡ [] → bundle_step_passes c again first flags skip h passes ≡ true
bundle_holds c again None flags skip h faults passes more e = refl
bundle_holds c again (Some x) flags zero h faults passes more e =
    let rest = drop (length (encode_utf8 x)) flags in
    short_holds c again (arg_by_short c x) rest h (faults rest 0) (passes rest 0) (more rest 0) e
bundle_holds c again (Some x) flags (suc skip) h faults passes more e = more (drop (length (encode_utf8 x)) flags) skip h e

flags_hold : (c : List Rule) (again : Bool) (k : ℕ) (flags : Text) (skip : ℕ) (h : Held) → flags_fault c again k flags skip h ≡ [] → flags_pass c again k flags skip h ≡ true
unfolding flags_fault flags_pass
flags_hold c again zero flags skip h e = refl
flags_hold c again (suc k) flags skip h e =
    bundle_holds c again (slice_get (chars flags) 0) flags skip h (flags_fault c again k) (flags_pass c again k) (flags_hold c again k) e

flag_word_holds : (c : List Rule) (again : Bool) (long : Option (Text × Option Text)) (word : Text) (h : Held) → flag_word_fault c again long word h ≡ []
    → flag_word_passes c again long word h ≡ true
flag_word_holds c again (Some p) word h e = long_holds c again (arg_by_long c p.0) p.1 h e
flag_word_holds c again None word h e = go (short_of word) e
  where
    go : (short : Option Text)
        → option_map_or (λ flags. flags_fault c again (length flags) flags h.skip (record h { skip = 0 })) short [] ≡ []
        → option_map_or (λ flags. flags_pass c again (length flags) flags h.skip (record h { skip = 0 })) short true ≡ true
    go None e = refl
    go (Some flags) e = flags_hold c again (length flags) flags h.skip (record h { skip = 0 }) e

other_holds : (s : Shape) (name : Option Text) (word : Text) (h : Held) → other_fault s name word h ≡ [] → other_passes s name word h ≡ true
other_holds s (Some name) word h e = allowed _ s.disable_help_subcommand _ _ e
other_holds s None word h e =
    unless (bytes_eq word (45 ∷ 45 ∷ [])) _ _ (flag_word_holds s.rules s.args_override_self (long_of word) word h) e

word_holds : (s : Shape) (names : Names) (is_trailing : Bool) (waiting : Waiting) (word : Text) (h : Held) → word_fault s names is_trailing waiting word h ≡ []
    → word_passes s names is_trailing waiting word h ≡ true
word_holds s names is_trailing waiting word h e = unless is_trailing _ _ (other_holds s (subcommand_met names waiting word) word h) e

stray_stays : {P : Type 0} (s : Shape) → stray_fault s ≡ [] → P
stray_stays {P} s e = go _ _ _ s.is_leaf e
  where
    go : (j k l : ErrorKind) (leaf : Bool) → cond leaf (j ∷ []) (k ∷ l ∷ []) ≡ [] → P
    go j k l true e = fault_stays _ _ e
    go j k l false e = fault_stays _ _ e

step_holds : (s : Shape) (position : ℕ) (h : Held) (step : Step) → step_fault s position h step ≡ [] → step_passes s position h step ≡ true
step_holds s position h (next waiting) e = refl
step_holds s position h (trailing k) e = refl
step_holds s position h (subcommand name) e = refl
step_holds s position h value e = go (arg_by_index s.rules position) e
  where
    go : (found : Option Rule) → option_map_or (λ a. positional_fault s.rules s.args_override_self a h) found (stray_fault s) ≡ []
        → option_map_or (λ a. positional_passes s.rules s.args_override_self a h) found false ≡ true
    go None e = stray_stays s e
    go (Some a) e = unless (is_pending a h.pending && takes_several a) _ _ (settle_holds s.rules s.args_override_self h) e

turn_holds : (s : Shape) (names : Names) (w : Walk) (word : Text) → turn_fault s names w word ≡ [] → turn_passes s names w word ≡ true
turn_holds s names w word e =
    let met = word_met s.rules names w.is_trailing w.waiting w.position word w.held in
    unless (is_some w.stopped) _ _ (λ none.
    let parts = none_of_both (word_fault s names w.is_trailing w.waiting word w.held) _ none in
    and_from _ _ (word_holds s names w.is_trailing w.waiting word w.held parts.0) (step_holds s w.position met.0 met.1 parts.1)) e

pub walk_holds : (s : Shape) (names : Names) (w : Walk) (words : List Text) → walk_fault s names w words ≡ [] → walk_passes s names w words ≡ true
unfolding walk_fault walk_passes
walk_holds s names w [] e = refl
walk_holds s names w (word ∷ rest) e =
    let parts = none_of_both (turn_fault s names w word) _ e in
    and_from _ _ (turn_holds s names w word parts.0) (walk_holds s names (walked s.rules names w word) rest parts.1)
