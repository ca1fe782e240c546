-- What the answers of the scanner say of the bytes.
use Rattle.std.proofs.Common.{◌≡◌, ℕ, ◌+◌, Bool, true, false, List, [], ◌∷◌, ◌++◌, length, refl, sym, ap, subst, ◌∙◌, arith, length-append}
use Rattle.std.proofs.lemmas.List.{append-nil}
use Rattle.gql_tokens.specs.declared.scanner.Class.{Class}
use Rattle.gql_tokens.specs.declared.scanner.State.{State}
use Rattle.gql_tokens.specs.declared.scanner.Move.{Move}
use Rattle.gql_tokens.specs.declared.scanner.Move.TheVariants as m
use Rattle.gql_tokens.specs.declared.scanner.Scan.{Scan}
use Rattle.gql_tokens.specs.declared.scanner.Scan.TheVariants as sc
use Rattle.gql_tokens.specs.Lexical.{MayFollow, IsLexeme}
use Rattle.gql_tokens.specs.Scanning.{start, scan_by, scan, token_at, Left}
use Rattle.gql_tokens.proofs.Scans.{scan_found, scan_done, found_is, end_scan, scan_end, heads_are, tails_are}
use Rattle.gql_tokens.proofs.Lexemes.{Starts, starts, no_lexeme}
use Rattle.gql_tokens.proofs.Ends.{cut_is, going}

-- A token stands at the front. Where it reaches the end of the bytes, nothing lengthens it.
pub record Front (bytes : List ℕ) (class : Class) (n : ℕ) : Type 0 where
  pub used : List ℕ
  pub rest : List ℕ
  pub parts : bytes ≡ used ++ rest
  pub size : n ≡ length used
  pub is : IsLexeme class used
  pub follows : MayFollow class rest
  pub done : rest ≡ [] → (w : List ℕ) → MayFollow class w

pub found_front : (b : ℕ) (bs : List ℕ) (class : Class) (n : ℕ) → token_at b bs ≡ sc.Found class n → Front (b ∷ bs) class n
unfolding token_at
found_front b bs class n e = go (start b) (starts b) e
  where
    go : (o : Move) → Starts b o → scan_by o 0 (λ s. scan s 1 bs) ≡ sc.Found class n → Front (b ∷ bs) class n
    go (m.Go s) is e =
        let t = scan_found bs s 1 class n e in
        let sized : n ≡ 1 + length t.used = t.size in
        record {
          used = b ∷ t.used;
          rest = t.rest;
          parts = ap (λ (q : List ℕ). b ∷ q) t.parts;
          size = omega arith;
          is = is.1 class t.used t.left;
          follows = t.follows;
          done = λ none. scan_done bs s 1 class n e (sized ∙ ap (λ (q : List ℕ). 1 + length q) (sym (t.parts ∙ ap (λ (q : List ℕ). t.used ++ q) none ∙ append-nil t.used)));
        }
    go (m.Done found) is e =
        let same = found_is found class (0 + 1) n e in
        record {
          used = b ∷ [];
          rest = bs;
          parts = refl;
          size = sym same.1;
          is = subst (λ (x : Class). IsLexeme x (b ∷ [])) same.0 is.1;
          follows = subst (λ (x : Class). MayFollow x bs) same.0 (is.2 bs);
          done = λ none w. subst (λ (x : Class). MayFollow x w) same.0 (is.2 w);
        }
    go (m.Stop found) is e = absurd is
    go m.Bad is e = absurd cc

-- what was read up to the end of the bytes is a token
pub end_is_whole : (b : ℕ) (bs : List ℕ) (t : State) (class : Class) → token_at b bs ≡ sc.End t → Left t class [] → IsLexeme class (b ∷ bs)
end_is_whole b bs t class e l =
    let cut = cut_is b bs t e in
    subst (λ (q : List ℕ). IsLexeme class (b ∷ q)) (append-nil bs) ((going b cut.first cut.begins).1 class (bs ++ []) (scan_end bs cut.first 1 t cut.ends class [] l))

-- a token that begins bytes of which all were read is all of them
pub whole_is_end : (b : ℕ) (bs : List ℕ) (t : State) (class : Class) (a w : List ℕ) → token_at b bs ≡ sc.End t → IsLexeme class a → MayFollow class w → b ∷ bs ≡ a ++ w → Left t class []
whole_is_end b bs t class [] w e is follows parts = absurd (no_lexeme class is)
whole_is_end b bs t class (x ∷ a) w e is follows parts =
    let cut = cut_is b bs t e in
    let same : x ≡ b = sym (heads_are b x bs (a ++ w) parts) in
    let behind : bs ≡ a ++ w = tails_are b x bs (a ++ w) parts in
    let k = end_scan bs cut.first 1 t cut.ends class a w [] (append-nil bs ∙ behind) ((going b cut.first cut.begins).0 class a (subst (λ (q : ℕ). IsLexeme class (q ∷ a)) same is)) follows in
    subst (λ (q : List ℕ). Left t class q) (none k.0 (short a bs k.0 w behind k.1)) k.2
  where
    none : (q : List ℕ) → length q ≡ 0 → q ≡ []
    none [] e = refl
    none (y ∷ q) e = absurd (omega arith)

    short : (a bs q w : List ℕ) → bs ≡ a ++ w → a ≡ bs ++ q → length q ≡ 0
    short a bs q w e f = omega (arith, ap length e, ap length f, length-append a w, length-append bs q)
