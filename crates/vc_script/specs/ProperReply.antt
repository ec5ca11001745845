-- Replies whose names are names.
use Rattle.std.specs.Prelude.{ℕ, List, Bool, codes, ◌||◌, IsTrue}
use Rattle.std.specs.List.{AllByRecursion}
use Rattle.std.specs.Str.{bytes_eq}
use Rattle.vc_script.specs.declared.reply.Reply.{Reply}
use Rattle.vc_script.specs.declared.reply.Reply.TheVariants.{Opened, Closed, Cleared, Compacted, At, Freed, Written, Hex, Size, AddrIn, BlockList, Poked, Damaged, Watched, Rows, Views, MethodIs, Emptied, ShutDown}
use Rattle.vc_script.specs.Proper.{IsName, IsSite}
use Rattle.vc_script.specs.Words.{is_name}

-- a site, or `-` for the blocks without one
abbrev pub is_row_site : List ℕ → Bool
is_row_site site = is_name site || bytes_eq site (codes "-")

-- the names in a reply are names
abbrev pub IsProperReply : Reply → Type 0
IsProperReply (Opened name) = IsName name
IsProperReply (Closed region count) = IsName region
IsProperReply (Cleared region) = IsName region
IsProperReply (Compacted region count) = IsName region
IsProperReply (At block place line) = IsName block
IsProperReply (Freed block line) = IsName block
IsProperReply (Written block count line) = IsName block
IsProperReply (Hex block bytes) = IsName block
IsProperReply (Size block size) = IsName block
IsProperReply (AddrIn block off) = IsSite block
IsProperReply (BlockList items) = AllByRecursion (λ b. IsSite b.0) items
IsProperReply (Poked block line) = IsName block
IsProperReply (Damaged items) = AllByRecursion (λ d. IsName d.0) items
IsProperReply (Watched block) = IsName block
IsProperReply (Rows items) = AllByRecursion (λ r. IsTrue (is_row_site r.site)) items
IsProperReply (Views dict viewed) = IsName dict × IsSite viewed
IsProperReply (MethodIs dict method) = IsName dict
IsProperReply (Emptied dict count) = IsName dict
IsProperReply (ShutDown dict) = IsName dict
IsProperReply reply = Unit {0}
