-- A step of a command whose names are names replies with names, and leaves a state with names.
use Rattle.vc_base.proofs.Common.{◌≡◌, ℕ, ◌+◌, Bool, true, false, cond, not, ◌&&◌, List, [], ◌∷◌, ◌++◌, map, length, take, drop, ℤ, IfSome, IsTrue, nat_le, Some, None, Option, option_map, find, filter_map, bytes_eq, Ordering, Less, Equal, Greater, sym, refl, ap, ◌∙◌, subst, bytes_eq-Decides, AllByRecursion, cons_option, list_any, Terms, Block, relabel_block, at_number, Done, Outcome, Put, Refused, outcome_as, block_at, by_address, segment_at}
use Rattle.std.specs.Ordering.{eq_by_cmp}
use Rattle.std.specs.FinMap.Entries.{by_order}
use Rattle.vc_region.specs.Region.{Region, blocks_of, region_align, region_alloc, region_clear, region_compact, region_free, region_resize, region_write, aligns, damaged_in, is_debug, is_profile, keeps_freed, region_poke, region_watch, region_with_labels, rows_in, watch_at, OfBest, layout_in}
use Rattle.vc_region.specs.Region.{segments_of}
use Rattle.vc_model.proofs.Relabel.{block_at-relabel, by_address-relabel}
use Rattle.vc_region.proofs.Relabel.{align-relabelled, alloc-relabelled, blocks-relabelled, clear-relabelled, compact-relabelled, damaged-relabelled, free-relabelled, marks-relabelled, poke-relabelled, relabel_freed, resize-relabelled, write-relabelled}
use Rattle.vc_audit.proofs.DebugRelabel.{relabel_found}
use Rattle.vc_region.specs.Stat.{opened_region}
use Rattle.vc_seg.specs.declared.method.Method.{Method}
use Rattle.vc_seg.specs.declared.method.Method.TheVariants.{VmBest, VmPool, VmLast, VmDebug, VmProfile}
use Rattle.vc_script.specs.declared.command.Command.{Command}
use Rattle.vc_script.specs.declared.command.Command.TheVariants.{OpenRegion, CloseRegion, ClearRegion, Compact, Alloc, Align, Resize, Free, WriteBlock, ReadBlock, SizeOf, AddrOf, SegmentOf, StatOf, Segments, Blocks, Poke, Check, Watch, ProfileOf, OpenDict, Insert, Append, Attach, Delete, Detach, Search, MatchKey, First, Last, Next, Prev, Walk, Count, View, Remethod, Empty, Shut}
use Rattle.vc_script.specs.declared.refusal.Refusal.{Refusal}
use Rattle.vc_script.specs.declared.refusal.Refusal.TheVariants as why
use Rattle.vc_script.specs.declared.reply.Reply.TheVariants as reply
use Rattle.vc_script.specs.declared.reply.Reply.TheVariants.{Damaged, Hex, Poked, Rows, Size, Watched, Written}
use Rattle.vc_script.specs.Needs.{Need}
use Rattle.vc_script.specs.Proper.{IsName, IsProperCommand, IsSite}
use Rattle.vc_script.specs.ProperReply.{IsProperReply, is_row_site}
use Rattle.vc_script.specs.Words.{is_name}
use Rattle.vc_commands.specs.Home.{Changed, Home, Label, changed_to, is_home, reply_alone, refusal_alone}
use Rattle.vc_steps.specs.State.{State, Stepped, step_with_change, close_home, step_with_close, is_home_busy, unless_busy, home_named, opened_over, step_with_refusal, with_region, without_home}
use Rattle.vc_views.specs.Views.{DictHome, dict_named, is_dict, is_linked_in, is_viewed_in, seen_through}
use Rattle.vc_commands.specs.Looking.{is_look}
use Rattle.vc_steps.proofs.ViewReplies.{look-any, some-map, view-any}
use Rattle.vc_commands.specs.Blocks.{change_by_free, free_block_found, has_label, has_label_room, is_align, is_block, is_size, kept_freed, no_block, align_refused, put_unless_refused, site_or_hyphen, size_refused, put_in, put_new, read_block_found, resize_block_found, with_named, write_block_found}
use Rattle.vc_commands.specs.Whole.{addr_reply, item_of, kept_cleared, segment_reply, with_label, with_labels}
use Rattle.vc_commands.specs.FreedNames.{FreedNames, by_name, freed_line, with_line, without_name}
use Rattle.vc_steps.specs.Step.{cleared_or, region_of_command, region_step, shelf_step, step, step_of, step_on}
use Rattle.vc_commands.specs.RegionCommands.{in_region, is_for_block}
use Rattle.vc_steps.specs.Dicts.{dict_changed, dict_command, dict_of, dict_opened, dict_refused, dict_shut, look_step, on_found, on_seat, open_dict_in, open_dict_unless, seat_at_home, shut_in, view_set}
use Rattle.vc_session.proofs.ProperDicts.{IsProperGrown, proper-best, proper-in_dict, proper-layout, proper-open, proper-region_without}
use Rattle.vc_base.specs.declared.dict_method.DictMethod.{DictMethod}
use Rattle.vc_dtdisc.specs.Rules.{Rules}
use Rattle.vc_objects.specs.Insert.{Grown, open_dictionary}
use Rattle.vc_objects.specs.Remove.{region_without}
use Rattle.vc_commands.specs.DictCommands.{in_dict, is_for_table}
use Rattle.vc_session.specs.ProperState.{AreProperNames, HasProperSites, IsProperHome, IsProperRegion, IsProperState, name_or_none}
use Rattle.vc_commands.specs.Audit.{check_in, damage_item, is_poke, poke_block, poke_byte, profile_in, watch_block}
use Rattle.vc_session.proofs.ProperSites.{HasSitesAfter, HasSitesFreed, clear-sites, compact-sites, free-sites, poke-sites, resize-sites, row-read_site, sites-align, sites-alloc, watch-sites, write-sites}

-- a name stays, and what stays is a name
name-stays : (x : List ℕ) → IsName x → name_or_none (Some x) ≡ Some x
name-stays x name = ap (λ t. cond t (Some x) None) name

site-cond : (t : Bool) (x : List ℕ) → is_name x ≡ t → IsSite (cond t (Some x) None)
site-cond true x name = name
site-cond false x name = tt

site-of : (l : Label) → IsSite (name_or_none l)
site-of None = tt
site-of (Some x) = site-cond (is_name x) x refl

-- the region that a call gives is as proper as the one that it is given
abbrev IsProperOutcome : Outcome (Put (Region Label)) → Type 0
IsProperOutcome (Done p) = IsProperRegion p.region × HasProperSites p.region
IsProperOutcome (Refused why) = Unit {0}

abbrev region_in : Region Label → Outcome (Put (Region Label)) → Region Label
region_in r (Done p) = p.region
region_in r (Refused why) = r

proper-outcome : (o : Outcome (Put (Region Label))) → o ≡ outcome_as (region_with_labels name_or_none) o → HasSitesAfter o → IsProperOutcome o
proper-outcome (Done p) same sites = (sym (ap (region_in p.region) same), sites)
proper-outcome (Refused why) same sites = tt

proper-alloc : (terms : Terms) (r : Region Label) (x site : List ℕ) (size : ℕ) (refused : Bool) → IsName x → IsProperRegion r → IsTrue (is_row_site site) → HasProperSites r → IsProperOutcome (region_alloc terms r (Some x) site size refused)
proper-alloc terms r x site size refused name proper is sites =
    proper-outcome (region_alloc terms r (Some x) site size refused)
    (sym (ap (λ q. region_alloc terms q (name_or_none (Some x)) site size refused) proper ∙ ap (λ l. region_alloc terms r l site size refused) (name-stays x name))
    ∙ alloc-relabelled name_or_none terms r (Some x) site size refused)
    (sites-alloc terms r (Some x) site size refused is sites)

proper-align : (terms : Terms) (r : Region Label) (x site : List ℕ) (size align : ℕ) (refused : Bool) → IsName x → IsProperRegion r → IsTrue (is_row_site site) → HasProperSites r → IsProperOutcome (region_align terms r (Some x) site size align refused)
proper-align terms r x site size align refused name proper is sites =
    proper-outcome (region_align terms r (Some x) site size align refused)
    (sym (ap (λ q. region_align terms q (name_or_none (Some x)) site size align refused) proper ∙ ap (λ l. region_align terms r l site size align refused) (name-stays x name))
    ∙ align-relabelled name_or_none terms r (Some x) site size align refused)
    (sites-align terms r (Some x) site size align refused is sites)

proper-resize : (terms : Terms) (r : Region Label) (at : ℕ × ℕ) (size : ℕ) (may_move refused : Bool) → IsProperRegion r → HasProperSites r → IsProperOutcome (region_resize terms r at size may_move refused)
proper-resize terms r at size may_move refused proper sites =
    proper-outcome (region_resize terms r at size may_move refused)
    (sym (ap (λ q. region_resize terms q at size may_move refused) proper)
    ∙ resize-relabelled name_or_none terms r at size may_move refused)
    (resize-sites terms r at size may_move refused sites)

abbrev IsProperFreed : Outcome (Region Label) → Type 0
IsProperFreed (Done r) = IsProperRegion r × HasProperSites r
IsProperFreed (Refused why) = Unit {0}

abbrev region_left : Region Label → Outcome (Region Label) → Region Label
region_left r (Done q) = q
region_left r (Refused why) = r

proper-freed : (o : Outcome (Region Label)) → o ≡ relabel_freed name_or_none o → HasSitesFreed o → IsProperFreed o
proper-freed (Done r) same sites = (sym (ap (region_left r) same), sites)
proper-freed (Refused why) same sites = tt

proper-free : (r : Region Label) (at : ℕ × ℕ) → IsProperRegion r → HasProperSites r → IsProperFreed (region_free r at)
proper-free r at proper sites =
    proper-freed (region_free r at) (sym (ap (λ q. region_free q at) proper) ∙ free-relabelled name_or_none r at) (free-sites r at sites)

-- what is kept besides names is names
order-names : (o : Ordering) (a b c : FreedNames) → AreProperNames a → AreProperNames b → AreProperNames c → AreProperNames (by_order o a b c)
order-names Less a b c p q r = p
order-names Equal a b c p q r = q
order-names Greater a b c p q r = r

proper-with : (x : List ℕ) (line : ℕ) (k : FreedNames) → IsName x → AreProperNames k → AreProperNames (with_line x line k)
proper-with x line [] name all = (name, tt)
proper-with x line (e ∷ es) name all =
    order-names (by_name x e.0) ((x, line) ∷ e ∷ es) ((e.0, line) ∷ es) (e ∷ with_line x line es) (name, all) (all.0, all.1) (all.0, proper-with x line es name all.1)

names-cond : (t : Bool) (a b : FreedNames) → AreProperNames a → AreProperNames b → AreProperNames (cond t a b)
names-cond true a b p q = p
names-cond false a b p q = q

proper-without : (x : List ℕ) (k : FreedNames) → AreProperNames k → AreProperNames (without_name x k)
proper-without x [] all = tt
proper-without x (e ∷ es) all =
    let rest = proper-without x es all.1 in
    names-cond (not (eq_by_cmp by_name x e.0)) (e ∷ without_name x es) (without_name x es) (all.0, rest) rest

proper-with_label : (l : Label) (line : ℕ) (k : FreedNames) → IsSite l → AreProperNames k → AreProperNames (with_label l line k)
proper-with_label None line k name all = all
proper-with_label (Some x) line k name all = proper-with x line k name all

proper-with_labels : (bs : List (Block Label)) (line : ℕ) (k : FreedNames) → AreProperNames k → AreProperNames (with_labels (map (relabel_block name_or_none) bs) line k)
proper-with_labels [] line k all = all
proper-with_labels (b ∷ bs) line k all =
    proper-with_label (name_or_none b.label) line (with_labels (map (relabel_block name_or_none) bs) line k) (site-of b.label) (proper-with_labels bs line k all)

-- the names in a reply, the labels in the region with it, and the names that it keeps, are names, and its sites are sites
abbrev IsProperChange : Changed → Type 0
IsProperChange c = IsProperReply c.reply × IsProperRegion c.region × AreProperNames c.kept × HasProperSites c.region

change-cond : (t : Bool) (a b : Changed) → IsProperChange a → IsProperChange b → IsProperChange (cond t a b)
change-cond true a b p q = p
change-cond false a b p q = q

proper-put : (h : Home) (x : List ℕ) (kept : FreedNames) (watch : Option ℕ) (o : Outcome (Put (Region Label))) → IsName x → IsProperHome h → AreProperNames kept → IsProperOutcome o → IsProperChange (put_in h x kept watch o)
proper-put h x kept watch (Done p) name all names there = (name, there.0, names, there.1)
proper-put h x kept watch (Refused fault) name all names there = (tt, all.0, all.1, all.2)

proper-put_unless_refused : (h : Home) (x : List ℕ) (words : Option Refusal) (o : Outcome (Put (Region Label))) → IsName x → IsProperHome h → IfSome words (λ w. IsProperReply (reply.Refused w)) → IsProperOutcome o → IsProperChange (put_unless_refused h x words o)
proper-put_unless_refused h x (Some refusal) o name all proper there = (proper, all.0, all.1, all.2)
proper-put_unless_refused h x None o name all proper there =
    let left = without_name x h.kept in
    change-cond (has_label_room h x) (put_in h x left None o) (refusal_alone h why.TooManyBlocks) (proper-put h x left None o name all (proper-without x h.kept all.1) there) (tt, all.0, all.1, all.2)

proper-put_new : (h : Home) (x : List ℕ) (words : Option Refusal) (o : Outcome (Put (Region Label))) → IsName x → IsProperHome h → IfSome words (λ w. IsProperReply (reply.Refused w)) → IsProperOutcome o → IsProperChange (put_new h x words o)
proper-put_new h x words o name all proper there =
    change-cond (has_label x h.region) (refusal_alone h why.BlockExists) (put_unless_refused h x words o) (tt, all.0, all.1, all.2) (proper-put_unless_refused h x words o name all proper there)

proper-sized : (legal : Bool) → IfSome (let o : Option Refusal = cond legal None (Some why.Size) in o) (λ w. IsProperReply (reply.Refused w))
proper-sized true = tt
proper-sized false = tt

proper-aligned : (aligned legal : Bool) → IfSome (let o : Option Refusal = cond aligned (cond legal None (Some why.Size)) (Some why.WrongMethod) in o) (λ w. IsProperReply (reply.Refused w))
proper-aligned true legal = proper-sized legal
proper-aligned false legal = tt

proper-free_block_found : (h : Home) (x : List ℕ) (kept : FreedNames) (watch : Option ℕ) (o : Outcome (Region Label)) → IsName x → IsProperHome h → AreProperNames kept → IsProperFreed o → IsProperChange (change_by_free h x kept watch o)
proper-free_block_found h x kept watch (Done r) name all names there = (name, there.0, names, there.1)
proper-free_block_found h x kept watch (Refused fault) name all names there = (tt, all.0, all.1, all.2)

proper-kept_freed : (h : Home) (x : List ℕ) (line : ℕ) → IsName x → AreProperNames h.kept → AreProperNames (kept_freed h x line)
proper-kept_freed h x line name all = names-cond (keeps_freed h.region) (with_line x line h.kept) h.kept (proper-with x line h.kept name all) all

proper-none : (line : Option ℕ) → IsProperReply (reply.Refused (no_block line))
proper-none None = tt
proper-none (Some line) = tt

proper-with_named : (h : Home) (x : List ℕ) (o : Option (Block Label)) (act : Block Label → Changed) → IsProperHome h → ((b : Block Label) → IsProperChange (act b)) → IsProperChange (with_named h x o act)
proper-with_named h x None act all each = (proper-none (freed_line x h.kept), all.0, all.1, all.2)
proper-with_named h x (Some b) act all each = each b

proper-resize_block_found : (h : Home) (x : List ℕ) (size : ℕ) (may_move not_lent : Bool) (b : Block Label) → IsName x → IsProperHome h → IsProperChange (resize_block_found h x size may_move not_lent b)
proper-resize_block_found h x size may_move not_lent b name all =
    let o = region_resize h.terms h.region (b.seg, b.off) size may_move not_lent in
    let watch = watch_at h.region (b.seg, b.off) in
    change-cond (is_size size) (put_in h x h.kept watch o) (refusal_alone h why.Size)
    (proper-put h x h.kept watch o name all all.1 (proper-resize h.terms h.region (b.seg, b.off) size may_move not_lent all.0 all.2)) (tt, all.0, all.1, all.2)

proper-write_block_found : (h : Home) (x : List ℕ) (off : ℕ) (bytes : List ℕ) (b : Block Label) → IsName x → IsProperHome h → IsProperChange (write_block_found h x off bytes b)
proper-write_block_found h x off bytes b name all =
    change-cond (nat_le (off + length bytes) b.size) (changed_to h (region_write h.region (b.seg, b.off) off bytes) (Written x (length bytes) (watch_at h.region (b.seg, b.off)))) (refusal_alone h why.Range)
    (name, sym (write-relabelled name_or_none h.region (b.seg, b.off) off bytes) ∙ ap (λ q. region_write q (b.seg, b.off) off bytes) all.0, all.1, write-sites h.region (b.seg, b.off) off bytes all.2) (tt, all.0, all.1, all.2)

proper-read_block_found : (h : Home) (x : List ℕ) (off len : ℕ) (b : Block Label) → IsName x → IsProperHome h → IsProperChange (read_block_found h x off len b)
proper-read_block_found h x off len b name all =
    change-cond ((nat_le 1 len && nat_le len 4096) && nat_le (off + len) b.size) (reply_alone h (Hex x (take len (drop off b.bytes)))) (refusal_alone h why.Range) (name, all.0, all.1, all.2) (tt, all.0, all.1, all.2)

-- the blocks of a proper region are labelled by names
relabelled-blocks : (r : Region Label) → IsProperRegion r → blocks_of r ≡ map (relabel_block name_or_none) (blocks_of r)
relabelled-blocks r all = sym (ap (λ q. blocks_of q) all) ∙ blocks-relabelled name_or_none r

proper-addr : (o : Option (Block Label × ℕ)) → IsProperReply (addr_reply (option_map (λ g. (relabel_block name_or_none g.0, g.1)) o))
proper-addr None = tt
proper-addr (Some g) = site-of g.0.label

proper-segment : (number : ℕ) (o : Option ℕ) → IsProperReply (segment_reply number o)
proper-segment number None = tt
proper-segment number (Some size) = tt

proper-items : (blocks : List (Block Label)) → AllByRecursion (λ b. IsSite b.0) (map item_of (map (relabel_block name_or_none) blocks))
proper-items [] = tt
proper-items (b ∷ bs) = (site-of b.label, proper-items bs)

proper-cleared : (h : Home) (line : ℕ) → IsProperHome h → AreProperNames (kept_cleared h line)
proper-cleared h line all =
    names-cond (keeps_freed h.region) (with_labels (blocks_of h.region) line h.kept) h.kept
    (subst (λ bs. AreProperNames (with_labels bs line h.kept)) (sym (relabelled-blocks h.region all.0)) (proper-with_labels (blocks_of h.region) line h.kept all.1))
    all.1

proper-poke_byte : (h : Home) (x : List ℕ) (off : ℤ) (byte : ℕ) (b : Block Label) → IsName x → IsProperHome h → IsProperChange (poke_byte h x off byte b)
proper-poke_byte h x off byte b name all =
    let at : ℕ × ℕ = (b.seg, b.off) in
    change-cond (is_poke b.size off byte) (changed_to h (region_poke h.region at off byte) (Poked x (watch_at h.region at))) (refusal_alone h why.Range)
    (name, sym (poke-relabelled name_or_none h.region at off byte) ∙ ap (λ q. region_poke q at off byte) all.0, all.1, poke-sites h.region at off byte all.2) (tt, all.0, all.1, all.2)

proper-poke_block : (h : Home) (x : List ℕ) (off : ℤ) (byte : ℕ) (b : Block Label) → IsName x → IsProperHome h → IsProperChange (poke_block h x off byte b)
proper-poke_block h x off byte b name all =
    change-cond (is_debug h.region) (poke_byte h x off byte b) (refusal_alone h why.WrongMethod) (proper-poke_byte h x off byte b name all) (tt, all.0, all.1, all.2)

proper-watch_block : (h : Home) (line : ℕ) (x : List ℕ) (b : Block Label) → IsName x → IsProperHome h → IsProperChange (watch_block h line x b)
proper-watch_block h line x b name all =
    let at : ℕ × ℕ = (b.seg, b.off) in
    change-cond (is_debug h.region) (changed_to h (region_watch h.region at line) (Watched x)) (refusal_alone h why.WrongMethod)
    (name, sym (marks-relabelled name_or_none h.region at line) ∙ ap (λ q. region_watch q at line) all.0, all.1, watch-sites h.region at line all.2) (tt, all.0, all.1, all.2)

cons-named : (l : Label) (off : ℤ) (xs : List (List ℕ × ℤ)) → IsSite l → AllByRecursion (λ d. IsName d.0) xs → AllByRecursion (λ d. IsName d.0) (cons_option (option_map {U = List ℕ × ℤ} (λ x. (x, off)) l) xs)
cons-named None off xs name rest = rest
cons-named (Some x) off xs name rest = (name, rest)

proper-found : (fs : List (Block Label × ℤ)) → AllByRecursion (λ d. IsName d.0) (filter_map damage_item (map (relabel_found name_or_none) fs))
proper-found [] = tt
proper-found (f ∷ fs) = cons-named (name_or_none f.0.label) f.1 (filter_map damage_item (map (relabel_found name_or_none) fs)) (site-of f.0.label) (proper-found fs)

proper-damaged : (r : Region Label) → IsProperRegion r → AllByRecursion (λ d. IsName d.0) (filter_map damage_item (damaged_in r))
proper-damaged r proper =
    subst (λ fs. AllByRecursion (λ d. IsName d.0) (filter_map damage_item fs)) (sym (damaged-relabelled name_or_none r) ∙ ap (λ q. damaged_in q) proper) (proper-found (damaged_in r))

proper-check : (h : Home) → IsProperHome h → IsProperChange (check_in h)
proper-check h all =
    change-cond (is_debug h.region) (reply_alone h (Damaged (filter_map damage_item (damaged_in h.region)))) (refusal_alone h why.WrongMethod)
    (proper-damaged h.region all.0, all.0, all.1, all.2) (tt, all.0, all.1, all.2)

proper-profile : (h : Home) → IsProperHome h → IsProperChange (profile_in h)
proper-profile h all =
    change-cond (is_profile h.region) (reply_alone h (Rows (rows_in h.region))) (refusal_alone h why.WrongMethod)
    (all.2, all.0, all.1, all.2) (tt, all.0, all.1, all.2)

proper-in_region : (h : Home) (line : ℕ) (c : Command) (need : Need) → IsProperCommand c → IsProperHome h → IsProperChange (in_region h line c need)
proper-in_region h line (ClearRegion r) need proper all =
    (proper, sym (clear-relabelled name_or_none h.region) ∙ ap (λ q. region_clear q) all.0, proper-cleared h line all, clear-sites h.region all.2)
proper-in_region h line (Compact r) need proper all =
    (proper, sym (compact-relabelled name_or_none h.region) ∙ ap (λ q. region_compact q) all.0, all.1, compact-sites h.region all.2)
proper-in_region h line (Alloc r x size site) need proper all =
    proper-put_new h x (size_refused size) (region_alloc h.terms h.region (Some x) (site_or_hyphen site) size (is_for_block need)) proper.1 all (proper-sized (is_size size)) (proper-alloc h.terms h.region x (site_or_hyphen site) size (is_for_block need) proper.1 all.0 (row-read_site site proper.3) all.2)
proper-in_region h line (Align r x size align) need proper all =
    proper-put_new h x (align_refused h.region size align) (region_align h.terms h.region (Some x) (45 ∷ []) size align (is_for_block need)) proper.1 all (proper-aligned (aligns h.region) (is_size size && is_align align)) (proper-align h.terms h.region x (45 ∷ []) size align (is_for_block need) proper.1 all.0 refl all.2)
proper-in_region h line (Resize r x size may_move) need proper all =
    proper-with_named h x (find (is_block x) (blocks_of h.region)) (resize_block_found h x size may_move (is_for_block need)) all (λ b. proper-resize_block_found h x size may_move (is_for_block need) b proper.1 all)
proper-in_region h line (Free r x) need proper all =
    proper-with_named h x (find (is_block x) (blocks_of h.region)) (free_block_found h x line) all (λ b. proper-free_block_found h x (kept_freed h x line) (watch_at h.region (b.seg, b.off)) (region_free h.region (b.seg, b.off)) proper.1 all (proper-kept_freed h x line proper.1 all.1) (proper-free h.region (b.seg, b.off) all.0 all.2))
proper-in_region h line (WriteBlock r x off bytes) need proper all =
    proper-with_named h x (find (is_block x) (blocks_of h.region)) (write_block_found h x off bytes) all (λ b. proper-write_block_found h x off bytes b proper.1 all)
proper-in_region h line (ReadBlock r x off len) need proper all =
    proper-with_named h x (find (is_block x) (blocks_of h.region)) (read_block_found h x off len) all (λ b. proper-read_block_found h x off len b proper.1 all)
proper-in_region h line (SizeOf r x) need proper all =
    proper-with_named h x (find (is_block x) (blocks_of h.region)) (λ b. reply_alone h (Size x b.size)) all (λ b. (proper.1, all.0, all.1, all.2))
proper-in_region h line (AddrOf r at) need proper all = (
  subst (λ o. IsProperReply (addr_reply o))
      (sym (ap (λ bs. block_at (at.seg, at.off) bs) (relabelled-blocks h.region all.0) ∙ block_at-relabel name_or_none (at.seg, at.off) (blocks_of h.region)))
      (proper-addr (block_at (at.seg, at.off) (blocks_of h.region))),
  all.0,
  all.1,
  all.2,
)
proper-in_region h line (SegmentOf r at) need proper all = (proper-segment at.seg (segment_at (at.seg, at.off) (segments_of h.region)), all.0, all.1, all.2)
proper-in_region h line (StatOf r) need proper all = (tt, all.0, all.1, all.2)
proper-in_region h line (Segments r) need proper all = (tt, all.0, all.1, all.2)
proper-in_region h line (Blocks r) need proper all = (
  subst (λ bs. AllByRecursion (λ b. IsSite b.0) (map item_of bs))
      (sym (ap (λ bs. by_address bs) (relabelled-blocks h.region all.0) ∙ by_address-relabel name_or_none (blocks_of h.region)))
      (proper-items (by_address (blocks_of h.region))),
  all.0,
  all.1,
  all.2,
)
proper-in_region h line (Poke r x off byte) need proper all =
    proper-with_named h x (find (is_block x) (blocks_of h.region)) (poke_block h x off byte) all (λ b. proper-poke_block h x off byte b proper.1 all)
proper-in_region h line (Check r) need proper all = proper-check h all
proper-in_region h line (Watch r x) need proper all =
    proper-with_named h x (find (is_block x) (blocks_of h.region)) (watch_block h line x) all (λ b. proper-watch_block h line x b proper.1 all)
proper-in_region h line (ProfileOf r) need proper all = proper-profile h all
proper-in_region h line command need proper all = (tt, all.0, all.1, all.2)

abbrev AreProperHomes : List Home → Type 0
AreProperHomes homes = AllByRecursion IsProperHome homes

some-cond : (t : Bool) (h : Home) (o : Option Home) → IsProperHome h → IfSome o IsProperHome → IfSome (cond t (Some h) o) IsProperHome
some-cond true h o here rest = here
some-cond false h o here rest = rest

proper-home_named : (r : List ℕ) (homes : List Home) → AreProperHomes homes → IfSome (home_named r homes) IsProperHome
proper-home_named r [] all = tt
proper-home_named r (h ∷ hs) all = some-cond (is_home r h) h (home_named r hs) all.0 (proper-home_named r hs all.1)

homes-cond : (t : Bool) (a b : List Home) → AreProperHomes a → AreProperHomes b → AreProperHomes (cond t a b)
homes-cond true a b p q = p
homes-cond false a b p q = q

proper-with_region : (r : List ℕ) (region : Region Label) (kept : FreedNames) (homes : List Home) → IsProperRegion region → AreProperNames kept → HasProperSites region → AreProperHomes homes → AreProperHomes (with_region r region kept homes)
proper-with_region r region kept [] here names sites all = tt
proper-with_region r region kept (h ∷ hs) here names sites all =
    homes-cond (is_home r h) ((record h { region = region; kept = kept }) ∷ hs) (h ∷ with_region r region kept hs) ((here, names, sites, all.0.3), all.1) (all.0, proper-with_region r region kept hs here names sites all.1)

proper-without_home : (r : List ℕ) (homes : List Home) → AreProperHomes homes → AreProperHomes (without_home r homes)
proper-without_home r [] all = tt
proper-without_home r (h ∷ hs) all = homes-cond (is_home r h) hs (h ∷ without_home r hs) all.1 (all.0, proper-without_home r hs all.1)

proper-home_push : (homes : List Home) (h : Home) → AreProperHomes homes → IsProperHome h → AreProperHomes (homes ++ h ∷ [])
proper-home_push [] h all here = (here, tt)
proper-home_push (g ∷ gs) h all here = (all.0, proper-home_push gs h all.1 here)

-- the names in a step's reply are names, and so are the labels in the state after it
abbrev pub IsProperStep : Stepped → Type 0
IsProperStep t = IsProperReply t.reply × IsProperState t.state

step-cond : (t : Bool) (a b : Stepped) → IsProperStep a → IsProperStep b → IsProperStep (cond t a b)
step-cond true a b p q = p
step-cond false a b p q = q

proper-unless_busy : (s : State) (r : List ℕ) (t : Stepped) → IsProperState s → IsProperStep t → IsProperStep (unless_busy s r t)
proper-unless_busy s r t all there = step-cond (is_home_busy s r) (step_with_refusal s why.Busy) t (tt, all) there

proper-closed : (s : State) (r : List ℕ) (o : Option Home) → IsName r → IsProperState s → IsProperStep (close_home s r o)
proper-closed s r None name all = (tt, all)
proper-closed s r (Some h) name all = proper-unless_busy s r (step_with_close s r h) all (name, proper-without_home r s.homes all)

proper-opened_over : (s : State) (r : List ℕ) (n : ℕ) (region : Region Label) (place : Option (Option Terms)) → IsName r → IsProperRegion region → HasProperSites region → IsProperState s → IsProperStep (opened_over s r n region place)
proper-opened_over s r n region None name here sites all = (tt, all)
proper-opened_over s r n region (Some None) name here sites all = (tt, all)
proper-opened_over s r n region (Some (Some terms)) name here sites all =
    (name, proper-home_push s.homes (record { name = r; place = n; terms = terms; region = region; kept = [] }) all (here, tt, sites, name))

-- a region that is opened has no labels
proper-new : (method : Method) → IsProperRegion (opened_region method)
proper-new VmBest = refl
proper-new VmPool = refl
proper-new VmLast = refl
proper-new VmDebug = refl
proper-new VmProfile = refl

-- and no rows
sites-new : (method : Method) → HasProperSites (opened_region method)
sites-new VmBest = tt
sites-new VmPool = tt
sites-new VmLast = tt
sites-new VmDebug = tt
sites-new VmProfile = tt

proper-dict_opened : (s : State) (h : Home) (d : List ℕ) (k : ℕ) (o : Outcome (Grown Label)) → IsName d → IsProperState s → IsProperHome h → IsProperGrown o → IsProperStep (dict_opened s h d k o)
proper-dict_opened s h d k (Refused fault) name all here there = (tt, all)
proper-dict_opened s h d k (Done g) name all here there = (name, proper-with_region h.name (OfBest g.region) h.kept s.homes (proper-best g.region there) here.1 tt all)

proper-dict_unless : (s : State) (h : Home) (d : List ℕ) (method : DictMethod) (k : ℕ) (need : Need) (o : Option Refusal) → IsName d → IsProperState s → IsProperHome h → IfSome o (λ w. IsProperReply (reply.Refused w)) → IsProperStep (open_dict_unless s h d method k need o)
proper-dict_unless s h d method k need (Some refusal) name all here proper = (proper, all)
proper-dict_unless s h d method k need None name all here proper =
    proper-dict_opened s h d k (open_dictionary h.terms (layout_in h.region) None method (is_for_table need)) name all here
    (proper-open h.terms (layout_in h.region) method (is_for_table need) (proper-layout h.region here.0))

-- a refusal has no names
proper-any : (w : Refusal) → IsProperReply (reply.Refused w)
proper-any w = tt

proper-some : (o : Option Refusal) → IfSome o (λ w. IsProperReply (reply.Refused w))
proper-some None = tt
proper-some (Some w) = proper-any w

proper-dict_in : (s : State) (d : List ℕ) (method : DictMethod) (k : ℕ) (need : Need) (o : Option Home) → IsName d → IsProperState s → IfSome o IsProperHome → IsProperStep (open_dict_in s d method k need o)
proper-dict_in s d method k need None name all here = (tt, all)
proper-dict_in s d method k need (Some h) name all here =
    proper-dict_unless s h d method k need (dict_refused s h d k) name all here (proper-some (dict_refused s h d k))

proper-on_shelf : (s : State) (c : Command) (need : Need) → IsProperCommand c → IsProperState s → IsProperStep (shelf_step s c need)
proper-on_shelf s (OpenRegion r method n) need proper all =
    let over = opened_over s r n (opened_region method) (at_number s.shelf n) in
    step-cond (list_any (is_home r) s.homes) (step_with_refusal s why.RegionExists) over (tt, all) (proper-opened_over s r n (opened_region method) (at_number s.shelf n) proper.0 (proper-new method) (sites-new method) all)
proper-on_shelf s (CloseRegion r) need proper all = proper-closed s r (home_named r s.homes) proper all
proper-on_shelf s (OpenDict d method r k) need proper all = proper-dict_in s d method k need (home_named r s.homes) proper.0 all (proper-home_named r s.homes all)
proper-on_shelf s command need proper all = (tt, all)

proper-cleared_or : (s : State) (r : List ℕ) (c : Command) (t : Stepped) → IsProperState s → IsProperStep t → IsProperStep (cleared_or s r c t)
proper-cleared_or s r (ClearRegion x) t all there = proper-unless_busy s r t all there
proper-cleared_or s r command t all there = there

proper-at : (s : State) (r : List ℕ) (line : ℕ) (c : Command) (need : Need) (o : Option Home) → IsProperCommand c → IsProperState s → IfSome o IsProperHome → IsProperStep (region_step s r line c need o)
proper-at s r line c need None proper all here = (tt, all)
proper-at s r line c need (Some h) proper all here =
    let done = proper-in_region h line c need proper here in
    proper-cleared_or s r c (step_with_change s r (in_region h line c need)) all
    (done.0, proper-with_region r (in_region h line c need).region (in_region h line c need).kept s.homes done.1 done.2 done.3 all)

proper-of : (s : State) (line : ℕ) (c : Command) (need : Need) (o : Option (List ℕ)) → IsProperCommand c → IsProperState s → IsProperStep (step_of s line c need o)
proper-of s line c need None proper all = proper-on_shelf s c need proper all
proper-of s line c need (Some r) proper all = proper-at s r line c need (home_named r s.homes) proper all (proper-home_named r s.homes all)

-- the name that is looked for is that of the dictionary that is found
found-name : (t : Bool) (name : List ℕ) (h : DictHome) (o : Option DictHome) → bytes_eq h.name name ≡ t → IsName name → IfSome o (λ d. IsName d.name) → IfSome (cond t (Some h) o) (λ d. IsName d.name)
found-name true name h o same proper rest = subst IsName (sym ((bytes_eq-Decides h.name name).0 same)) proper
found-name false name h o same proper rest = rest

proper-dict_named : (name : List ℕ) (dicts : List DictHome) → IsName name → IfSome (dict_named name dicts) (λ d. IsName d.name)
proper-dict_named name [] proper = tt
proper-dict_named name (h ∷ hs) proper = found-name (is_dict name h) name h (dict_named name hs) refl proper (proper-dict_named name hs proper)

proper-shut : (s : State) (d : DictHome) (o : Option Home) → IsProperState s → IfSome o IsProperHome → IsProperState (shut_in s d o)
proper-shut s d None all here = all
proper-shut s d (Some h) all here =
    let left = region_without (layout_in h.region) d.dict in
    proper-with_region h.name (OfBest left) h.kept s.homes (proper-best left (proper-region_without (layout_in h.region) d.dict (proper-layout h.region here.0))) here.1 tt all

proper-dict_changed : (s : State) (d : DictHome) (h : Home) (rules : Rules) (c : Command) (need : Need) → IsProperCommand c → IsProperState s → IsProperHome h → IsProperStep (dict_changed s d h (in_dict (seat_at_home d h rules) c need))
proper-dict_changed s d h rules c need proper all here =
    let done = proper-in_dict rules h.terms (layout_in h.region) d.dict c need proper (proper-layout h.region here.0) in
    let after = (in_dict (seat_at_home d h rules) c need).region in
    (done.0, proper-with_region h.name (OfBest after) h.kept s.homes (proper-best after done.1) here.1 tt all)

-- a name where there is one
site-name : (o : Option (List ℕ)) → IsSite o → IfSome o IsName
site-name None proper = tt
site-name (Some name) proper = proper

proper-dict_command : (s : State) (c : Command) (need : Need) (d : DictHome) (h : Home) (rules : Rules) → IsProperCommand c → IsName d.name → IsProperState s → IsProperHome h → IsProperStep (dict_command s c need d h rules)
proper-dict_command s (Shut name) need d h rules proper known all here =
    step-cond (is_viewed_in s.dicts d.name) (step_with_refusal s why.Viewed) (dict_shut s d) (tt, all)
    (known, proper-shut s d (home_named d.home s.homes) all (proper-home_named d.home s.homes all))
proper-dict_command s (View name viewed) need d h rules proper known all here =
    view-any IsProperStep s d (tt, all) (tt, all) (tt, all) (tt, all) viewed ((known, tt), all)
    (some-map IsName (λ x. IfSome (dict_named x s.dicts) (λ e. IsProperStep (view_set s d (Some e.name))))
    (λ x named. some-map (λ e. IsName e.name) (λ e. IsProperStep (view_set s d (Some e.name))) (λ e name. ((known, name), all)) (dict_named x s.dicts) (proper-dict_named x s.dicts named))
    viewed (site-name viewed proper.1))
proper-dict_command s (Remethod name method) need d h rules proper known all here =
    step-cond (is_linked_in s.dicts d) (step_with_refusal s why.Viewed) (dict_changed s d h (in_dict (seat_at_home d h rules) (Remethod name method) need)) (tt, all)
    (proper-dict_changed s d h rules (Remethod name method) need proper all here)
proper-dict_command s command need d h rules proper known all here =
    step-cond (is_look command) (look_step s rules command d) (dict_changed s d h (in_dict (seat_at_home d h rules) command need))
    (look-any IsProperReply tt (λ bytes. tt) (λ objects. tt) tt rules command (seen_through rules s.dicts d), all)
    (proper-dict_changed s d h rules command need proper all here)

proper-on_seat : (s : State) (c : Command) (need : Need) (d : DictHome) (o : Option Home) (rules : Option Rules) → IsProperCommand c → IsName d.name → IsProperState s → IfSome o IsProperHome → IsProperStep (on_seat s d (dict_command s c need) o rules)
proper-on_seat s c need d None rules proper known all here = (tt, all)
proper-on_seat s c need d (Some h) None proper known all here = (tt, all)
proper-on_seat s c need d (Some h) (Some rules) proper known all here = proper-dict_command s c need d h rules proper known all here

proper-on_found : (s : State) (c : Command) (need : Need) (o : Option DictHome) → IsProperCommand c → IsProperState s → IfSome o (λ d. IsName d.name) → IsProperStep (on_found s (dict_command s c need) o)
proper-on_found s c need None proper all known = (tt, all)
proper-on_found s c need (Some d) proper all known =
    proper-on_seat s c need d (home_named d.home s.homes) (at_number s.kinds d.kind) proper known all (proper-home_named d.home s.homes all)

-- the name of the dictionary that a command works on is a name
proper-dict_of : (c : Command) → IsProperCommand c → IfSome (dict_of c) IsName
proper-dict_of (Insert d bytes) proper = proper
proper-dict_of (Append d bytes) proper = proper
proper-dict_of (Attach d bytes) proper = proper
proper-dict_of (Delete d bytes) proper = proper
proper-dict_of (Detach d bytes) proper = proper
proper-dict_of (Search d bytes) proper = proper
proper-dict_of (MatchKey d key) proper = proper
proper-dict_of (First d) proper = proper
proper-dict_of (Last d) proper = proper
proper-dict_of (Next d bytes) proper = proper
proper-dict_of (Prev d bytes) proper = proper
proper-dict_of (Walk d) proper = proper
proper-dict_of (Count d) proper = proper
proper-dict_of (View d viewed) proper = proper.0
proper-dict_of (Remethod d method) proper = proper
proper-dict_of (Empty d) proper = proper
proper-dict_of (Shut d) proper = proper
proper-dict_of command proper = tt

proper-step_on : (s : State) (line : ℕ) (c : Command) (need : Need) (o : Option (List ℕ)) → IsProperCommand c → IsProperState s → IfSome o IsName → IsProperStep (step_on s line c need o)
proper-step_on s line c need None proper all name = proper-of s line c need (region_of_command c) proper all
proper-step_on s line c need (Some d) proper all name =
    proper-on_found s c need (dict_named d s.dicts) proper all (proper-dict_named d s.dicts name)

-- a step of a command whose names are names, in a state whose labels are
pub proper-step : (s : State) (n : ℕ) (c : Command) (need : Need) → IsProperCommand c → IsProperState s → IsProperStep (step s n c need)
proper-step s n c need proper all = proper-step_on s n c need (dict_of c) proper all (proper-dict_of c proper)
