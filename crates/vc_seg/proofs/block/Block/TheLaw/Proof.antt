-- A `&` to the owner of bytes is made where one to the bytes is. Assumes `Logic`.
use Rattle.vc_base.proofs.Common.{ℕ, ◌^◌, List, length}
use seplogic.Ra.Ura.{Ura}
use mir.Syntax.{Ty}
use base.Fraction.{full_share}
use base.Fml.{Lft, Fml, flt, fsep, Incl-refl}
use types.Logic.{Logic}
use denote.Builtin.{u8}
use denote.Array.{Array, Array-row_laws}
use denote.RawPtr.{Ptr, block_ptr, null_ptr, lies_at, in_block}
use denote.Sharing.{said}
use denote.SharingLaws.{said_shr_laws, beside_shr_laws}
use denote.Shares.{Shares, Shares-less, Shares-Array}
use denote.Struct.Lending.{lent_at, lent_at_shr_laws, Lends, Lends-false, Lends-lies, Lends-said, Lends-first, Lends-both, of_Lends}
use Rattle.std.specs.contracts.impls.GlobalAllocator.TheImpl.{ghosts}
use Rattle.vc_seg.specs.Owned.{right}
use Rattle.vc_seg.specs.contracts.block.Block as C
use Rattle.vc_seg.proofs.Lodging.{byte_laws}
use Rattle.vc_seg.proofs.block.Block.TheLaw.Statement.{statement}

module _ {M : Type 1} {𝓤 : Ura M} (𝓛 : Logic 𝓤) (t : Ty → Ptr → Fml) (l : Lft) (s : Shares 𝓛 u8 l) (xs : List ℕ) where
  abbrev n : ℕ
  n = length xs

  Lends-held : (p : Ptr) → Lends 𝓛 (in_block p (fsep (lies_at (Array u8 n) full_share p xs) (right t n p))) (lent_at (Array u8 n) p xs) l
  Lends-held null_ptr = Lends-false 𝓛 (lent_at (Array u8 n) null_ptr xs) l
  Lends-held (block_ptr b o) =
      let p : Ptr = block_ptr b o in
      Lends-first 𝓛 (lies_at (Array u8 n) full_share p xs) (right t n p) (lent_at (Array u8 n) p xs) l (Lends-lies 𝓛 (Array u8 n) l p xs (Shares-Array 𝓛 u8 tt n l s xs))

pub shares : statement
shares =
    of_Lends C.struct C.the_codes C.the_heap C.the_lent
    (λ d p.
    let n = length d.bytes in
    let small = flt n (2 ^ 63) in
    let L = Array-row_laws u8 byte_laws.shr_laws n in
    beside_shr_laws (said small) (lent_at (Array u8 n) d.at d.bytes) (said_shr_laws small tt) (lent_at_shr_laws (Array u8 n) L d.at d.bytes))
    tt
    (λ M 𝓤 𝓛 d p.
    let l = C.the_row.lives in
    let small = flt (length d.bytes) (2 ^ 63) in
    Lends-both 𝓛 small _ (said small) (lent_at (Array u8 (length d.bytes)) d.at d.bytes) l (Lends-said 𝓛 small tt l)
    (Lends-held 𝓛 (ghosts.dealloc_token d.alloc) l (Shares-less 𝓛 u8 u8.lives l (Incl-refl l) (byte_laws.shares 𝓛)) d.bytes d.at))
