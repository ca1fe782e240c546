-- The text of tokens is read as these tokens.
use Rattle.std.proofs.Common.{◌≡◌, ℕ, zero, suc, ◌<◌, Bool, true, false, List, [], ◌∷◌, ◌++◌, length, refl, sym, ap, subst, ◌∙◌, ◌⊎◌, inl, inr, arith, append_assoc}
use Rattle.std.specs.Prelude.{All}
use Rattle.std.proofs.lemmas.List.{append-nil}
use Rattle.std.proofs.Math.Seq.{take-append_seam, drop-append_seam}
use Rattle.std.proofs.lemmas.List.Elements.{All-take, All-drop}
use Rattle.token_read.specs.Exact.{AreReal}
use Rattle.gql_tokens.specs.declared.kinds.Kind.{Kind}
use Rattle.gql_tokens.specs.declared.kinds.Kind.TheVariants as k
use Rattle.gql_tokens.specs.declared.scanner.Class.{Class}
use Rattle.gql_tokens.specs.declared.scanner.Class.TheVariants as c
use Rattle.gql_tokens.specs.Lexical.{Token, IsLexeme, IsReal, token_of, Leads, here, skip, token, blank, Lexes, MayFollow}
use Rattle.gql_tokens.specs.Lexical as lex
use Rattle.gql_print.specs.Canonical.{source, separator, text_of, AreBytes}
use Rattle.gql_print.proofs.Tokens.{name_cases, mark_cases}
use Rattle.gql_print.proofs.Sources.{source_is, follows_space, follows_end, follows_any, separator_is}
use Rattle.gql_print.proofs.Writes.{Proper, AreProper}

pub text_lexes : (ts : List Token) → AreProper ts → Lexes ts (text_of ts)
text_lexes [] proper = here
text_lexes (t ∷ []) (((class, a, is, same), whole), rest) =
    subst (λ (q : Token). Lexes (q ∷ []) (source q)) (sym same)
    (subst (λ (q : List ℕ). Lexes (token_of class a ∷ []) q) (append-nil a ∙ sym (source_is class a is)) (token class a [] is (follows_end class) here))
text_lexes (t ∷ (u ∷ us)) (((class, a, is, same), whole), rest) = one (separator_is t.kind) (text_lexes (u ∷ us) rest)
  where
    -- with what separates it from the next
    with_separator : (sep : List ℕ) → separator t.kind ≡ sep → Leads (u ∷ us) (sep ++ text_of (u ∷ us)) [] → MayFollow class (sep ++ text_of (u ∷ us)) → Lexes (t ∷ (u ∷ us)) (source t ++ (separator t.kind ++ text_of (u ∷ us)))
    with_separator sep e l follows =
        subst (λ (q : List ℕ). Lexes (t ∷ (u ∷ us)) (source t ++ (q ++ text_of (u ∷ us)))) (sym e)
        (subst (λ (q : Token). Lexes (q ∷ (u ∷ us)) (source q ++ (sep ++ text_of (u ∷ us)))) (sym same)
        (subst (λ (q : List ℕ). Lexes (token_of class a ∷ (u ∷ us)) (q ++ (sep ++ text_of (u ∷ us)))) (sym (source_is class a is)) (token class a (sep ++ text_of (u ∷ us)) is follows l)))

    one : (separator t.kind ≡ []) ⊎ (separator t.kind ≡ 32 ∷ []) → Lexes (u ∷ us) (text_of (u ∷ us)) → Lexes (t ∷ (u ∷ us)) (source t ++ (separator t.kind ++ text_of (u ∷ us)))
    one (inl e) l = with_separator [] e l (follows_any class a (text_of (u ∷ us)) is (ap (λ (q : Token). separator q.kind) (sym same) ∙ e))
    one (inr e) l = with_separator (32 ∷ []) e (skip (32 ∷ []) (text_of (u ∷ us)) (blank 32 refl) l) (follows_space class (text_of (u ∷ us)))

-- ---- bytes have no gap

all_front : (a w : List ℕ) → AreBytes (a ++ w) → AreBytes a
all_front a w all = subst AreBytes (take-append_seam a w) (All-take (λ (b : ℕ). b < 256) (length a) (a ++ w) all)

all_back : (a w : List ℕ) → AreBytes (a ++ w) → AreBytes w
all_back a w all = subst AreBytes (drop-append_seam a w) (All-drop (λ (b : ℕ). b < 256) (length a) (a ++ w) all)

abbrev NoGap : Kind → ℕ → Type 0
NoGap kind b = AreBytes (b ∷ []) → kind ≡ k.Gap → ⊥

gap_is_none : NoGap k.Gap 256
gap_is_none all e = let within : 256 < 256 = all 0 0 (omega arith) in absurd (omega arith)

abbrev Other : Kind → Type 0
Other kind = kind ≡ k.Gap → ⊥

no_gap : (class : Class) (a : List ℕ) → IsLexeme class a → AreBytes a → (token_of class a).kind ≡ k.Gap → ⊥
no_gap _ _ (lex.mark kind b e) all gap = mark_cases NoGap
    ((λ h e. cc), ((λ h e. cc), ((λ h e. cc), ((λ h e. cc), ((λ h e. cc), ((λ h e. cc), ((λ h e. cc), ((λ h e. cc), ((λ h e. cc), ((λ h e. cc), ((λ h e. cc), ((λ h e. cc), ((λ h e. cc), (gap_is_none, tt)))))))))))))) kind b e all gap
no_gap _ _ lex.dots all gap = absurd cc
no_gap _ _ (lex.name b bs start rest) all gap = name_cases (λ kind a. Other kind) ((λ e. cc), ((λ e. cc), ((λ e. cc), ((λ e. cc), ((λ e. cc), ((λ e. cc), ((λ e. cc), ((λ e. cc), tt)))))))) (λ a e. cc) (b ∷ bs) gap
no_gap _ _ (lex.number a is) all gap = absurd cc
no_gap _ _ lex.empty all gap = absurd cc
no_gap _ _ (lex.string b w first is) all gap = absurd cc
no_gap _ _ (lex.block w is) all gap = absurd cc

pub lexes_proper : {ts : List Token} {text : List ℕ} → Lexes ts text → AreBytes text → AreProper ts
lexes_proper here all = tt
lexes_proper (skip a w is l) all = lexes_proper l (all_back a w all)
lexes_proper (token class a w is follows l) all = (((class, a, is, refl), no_gap class a is (all_front a w all)), lexes_proper l (all_back a w all))
