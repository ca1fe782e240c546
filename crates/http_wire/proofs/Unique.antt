-- The bytes decide where a head ends and what it says.
use Rattle.std.proofs.Common.{◌≡◌, ◌∙◌, sym, ap, ℕ, ◌+◌, List, [], subst, ◌<◌, arith, Bool, true, false, Some}
use Rattle.httparse.proofs.GrammarLemmas.{request_unique}
use Rattle.http_wire.specs.EmptyLine.{IsHeadLength}
use Rattle.http_wire.specs.Heads.{HeadSays, Opens, kept_fields, closes, declared_length}

Truth : Bool → Type 0
Truth true = Unit {0}
Truth false = ⊥

pub never_both : true ≡ false → ⊥
unfolding Truth
never_both e = subst (λ (b : Bool). Truth b) e tt

not_before : (bytes : List ℕ) (n k : ℕ) → (h : IsHeadLength bytes n) → (j : IsHeadLength bytes k) → ¬ (h.0 < j.0)
not_before bytes n k h j lt = never_both (sym h.2.ends ∙ j.2.first h.0 (omega arith) lt)

pub head_unique : (bytes : List ℕ) (n k : ℕ) → IsHeadLength bytes n → IsHeadLength bytes k → n ≡ k
head_unique bytes n k h j =
    let a : n ≡ h.0 + 1 = h.1 in
    let b : k ≡ j.0 + 1 = j.1 in
    let c : ¬ (h.0 < j.0) = not_before bytes n k h j in
    let d : ¬ (j.0 < h.0) = not_before bytes k n j h in
    omega arith

pub record SaysSame (o p : HeadSays) : Type 0 where
  pub method : o.method ≡ p.method
  pub target : o.target ≡ p.target
  pub fields : o.fields ≡ p.fields
  pub close : o.close ≡ p.close
  pub length : Some o.length ≡ Some p.length

pub opens_unique : (bytes : List ℕ) (o p : HeadSays) → Opens bytes o → Opens bytes p → SaysSame o p
opens_unique bytes o p x y =
    let one = (request_unique bytes x.head y.head [] [] x.reads y.reads).0 in
    let fields = x.fields ∙ ap kept_fields one ∙ sym y.fields in
    record {
      method = x.method ∙ ap (λ h. h.method) one ∙ sym y.method;
      target = x.target ∙ ap (λ h. h.target) one ∙ sym y.target;
      fields = fields;
      close = x.close ∙ ap (λ h. closes h.minor o.fields) one ∙ ap (closes y.head.minor) fields ∙ sym y.close;
      length = sym x.declared ∙ ap declared_length fields ∙ y.declared;
    }
