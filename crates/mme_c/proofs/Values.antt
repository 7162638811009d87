-- The machine value of a `MmeHandle`, and what it owns. Assumes `Logic`.
--     R, Z, LZ, Lo     a session, the allocator with its laws, and the box as its pointer, as rows
--     H, word          the handle as a row, and its machine value
--     handle_out, handle_in     the handle by value is what it owns
--     either           a handle is null and empty, or a block with a session, and may then be compared with null
use Rattle.std.proofs.Common.{◌≡◌, ℕ, List, [], ◌∷◌, ◌++◌, refl, subst, lit<, Option, None, Some}
use lib.Dec.{T}
use seplogic.Ra.Ura.{Ura}
use mir.Raw.{raw as bare}
use mir.Val.{Val, vstruct, vcons, vnil, of_list, has_ty, WT}
use base.Logic.{never, fst∗, guard_i}
use types.Logic.{Logic, sem}
use types.Kit.{Item, Goal, Seq, Step, step, ‵, given, ◌$◌, move, drop, fsplit, fjoin, fpick, fpack, feq_i, feq_l, use1, learn}
use contract.Monad.{fact_use}
use denote.RattleType.{RattleType, Valss}
use denote.Builtin.{RawPtr}
use denote.Memory.{lone}
use denote.RawPtr.{Ptr, block_ptr, null_ptr, ptr_val, in_a_block, Testable}
use denote.Steps.{nothing}
use denote.Param.{layout}
use denote.Param.Laws.{Laws}
use denote.Struct.Struct.{within}
use denote.Struct.Owning.{shape}
use Rattle.std.proofs.GlobalToken.{dealloc_token-Testable}
use Rattle.std.specs.contracts.alloc.Global as heap
use Rattle.std.proofs.alloc.Global.TheLaws as heap_laws
use Rattle.std.specs.contracts.impls.GlobalAllocator.TheImpl.{ghosts}
use Rattle.std.specs.Box.Ownership.{box_owns}
use Rattle.mme_c.proofs.LooseValues.{Loose}
use Rattle.mme_c.specs.Ownership.{heap as global, handle_owns}
use Rattle.c_session.specs.declared.session.Session.{Session}
use Rattle.c_session.specs.contracts.session.Session as session
use Rattle.mme_c.specs.contracts.handle.MmeHandle as handle

abbrev pub R : RattleType
R = session.the_row

abbrev pub Z : RattleType
Z = heap.the_row

abbrev pub LZ : Laws Z
LZ = heap_laws.the_row_laws

abbrev pub Lo : RattleType
Lo = Loose R Z LZ ghosts

abbrev pub H : RattleType
H = handle.the_row

abbrev pub word : Ptr → Val
word p = vstruct (vcons (ptr_val p) vnil)

pub word_good : (p : Ptr) → T (has_ty (layout H) (word p)) × WT (word p)
word_good (block_ptr b o) = (tt, (tt, tt))
word_good null_ptr = (tt, (record { fits = lit< tt }, tt))

module _ {M : Type 1} {𝓤 : Ura M} {𝓛 : Logic 𝓤} {K : Type 0} {Γ : List (Item 𝓤)} {G : Goal 𝓤 𝓛.H} where
  pub handle_out : K → (d : H.Denot) (vs : List Val)
      → (vs ≡ word d.at ∷ [] → Seq K 𝓛 (‵ (handle_owns d.at d.session) ∷ Γ) G) → Seq K 𝓛 (‵ (H.own_val d vs) ∷ Γ) G
  handle_out t d vs k =
      fsplit t $ fpick t (λ vss. fsplit t $ feq_l t (λ ev. fsplit t $ feq_l t (λ ep. drop t $
      k (subst (λ (ps : List Val). vs ≡ vstruct (of_list (ps ++ [])) ∷ []) ep ev))))

  pub handle_in : K → (p : Ptr) (s : Option Session)
      → Step K 𝓛 (‵ (H.own_val (record { at = p; session = s }) (word p ∷ [])) ∷ Γ) G (‵ (handle_owns p s) ∷ Γ) G
  handle_in t p s = step (λ k.
      nothing t $ feq_i t (List Val) (ptr_val p ∷ []) (ptr_val p ∷ []) refl $ fjoin t $
      feq_i t (List Val) (word p ∷ []) (word p ∷ []) refl $ fjoin t $
      fpack t (Valss (RawPtr ∷ [])) (within (shape handle.the_type) (p, tt) (word p ∷ [])) (ptr_val p ∷ [], tt) $ fjoin t $ k)

  pub either : K → (p : Ptr) (s : Option Session) → (p ≡ null_ptr → s ≡ None → Seq K 𝓛 Γ G)
      → ((b o : ℕ) (x : Session) → p ≡ block_ptr b o → s ≡ Some x → Testable (block_ptr b o) → Seq K 𝓛 (‵ (box_owns (ghosts.dealloc_token global) R (block_ptr b o) x) ∷ Γ) G)
      → Seq K 𝓛 (‵ (handle_owns p s) ∷ Γ) G
  either t p None at_null at_block = feq_l t (λ e. at_null e refl)
  either t p (Some x) at_null at_block =
      let τ = bare (lone R.mir) in
      in_a_block t p (λ q. box_owns (ghosts.dealloc_token global) R q x) (fst∗ 𝓤 (never 𝓤) (sem 𝓛 (ghosts.dealloc_token global τ null_ptr))) (λ b o e. fsplit t $ move t (1 ∷ []) $
      use1 𝓛 (given (Testable (block_ptr b o)) (‵ (ghosts.dealloc_token global τ (block_ptr b o))))
      (fact_use 𝓤 (Testable (block_ptr b o)) (dealloc_token-Testable 𝓛 global τ (block_ptr b o)) (λ may. guard_i 𝓤 (Testable (block_ptr b o)) (sem 𝓛 (ghosts.dealloc_token global τ (block_ptr b o))) may)) $
      learn t (λ may. move t (1 ∷ 0 ∷ []) $ fjoin t $ at_block b o x e refl may))
