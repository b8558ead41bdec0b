-- Texts that begin with, end with or contain another, and hosts behind colons.
use Rattle.std.proofs.Common.{◌≡◌, inl, inr, ◌↔◌, ℕ, ◌+◌, ◌-◌, ◌≤◌, Bool, IsTrue, false, List, [], ◌∷◌}
use Rattle.std.proofs.Common.{◌++◌, length, take, drop, sym, ap, ◌∙◌, subst, arith, nat_eq, length-append}
use Rattle.std.proofs.Common.{take-append-drop, codes}
use Rattle.std.proofs.lemmas.Bool.{false≢true}
use Rattle.std.proofs.lemmas.Bool.Decides.{Decides-eqb}
use Rattle.std.proofs.lemmas.List.Prefix.{at_from_reads, at_reads, front_rest}
use Rattle.std.proofs.lemmas.Slice.Eq.{starts_is, ends_is}
use Rattle.std.specs.Cmp.Lexicographic.{pointwise}
use Rattle.bstr.specs.Text.{Contains}
use Rattle.gix_refspec_text.specs.Texts.Words.{BeginsWith, ContainsText, EndsWith, Lacks}
use Rattle.gix_refspec_text.proofs.lemmas.lists.LacksLemmas.{Lacks-here, first_once}
use Rattle.gix_refspec_text.proofs.lemmas.texts.TextLemmas.{Lacks-ContainsText}
use Rattle.refspec_request.specs.declared.choice.Looks.TheVariants as looks
use Rattle.refspec_request.specs.Words.{EndsAsSpec, HasHost, LooksLike}

-- a test of the start
pub begins_tested : (w x : List ℕ) (test : Bool) → test ≡ pointwise nat_eq w (take (length w) x) → IsTrue test
    ↔ BeginsWith w x
begins_tested w x test is = let told = starts_is Decides-eqb x w test is in (
  (λ so. record { after = drop (length w) x; here = told.0 so }),
  λ begins. told.1 begins.after begins.here,
)

-- a test of the end
pub ends_tested : (w x : List ℕ) (test : Bool) → test ≡ pointwise nat_eq w (drop (length x - length w) x)
    → IsTrue test ↔ EndsWith w x
ends_tested w x test is = let told = ends_is Decides-eqb x w test is in (
  (λ so. record { before = take (length x - length w) x; here = told.0 so }),
  λ ends. told.1 ends.before ends.here,
)

-- a text without a colon has no host
pub no_host : (x : List ℕ) → Lacks 58 x → IsTrue false ↔ HasHost x
no_host x lacks = (
  (λ so. absurd (false≢true so)),
  λ host. absurd (Lacks-ContainsText 58 x lacks (record
      { before = host.before; after = host.after; here = host.parts })),
)

-- one with a colon has one by what precedes and follows the first
pub host_tested : (x before after : List ℕ) (P : List ℕ → List ℕ → Type 0) (test : Bool) → x ≡ before ++ (58 ∷ after)
    → Lacks 58 before
    → ((host : HasHost x) → P host.before host.after) → (P before after → HasHost x) → IsTrue test ↔ P before after
    → IsTrue test ↔ HasHost x
host_tested x before after P test parts lacks from_host to_host tested = (
  (λ so. to_host (tested.0 so)),
  λ host. let same = first_once 58 host.before before host.after after host.first lacks (sym host.parts ∙ parts) in
      tested.1 (subst (λ z. P before z) same.1 (subst (λ y. P y host.after) same.0 (from_host host))),
)

-- a test of whether a text contains another
pub word_tested : (w x : List ℕ) (test : Bool) → IsTrue test ↔ Contains x w → IsTrue test ↔ ContainsText w x
word_tested w x test tested = (
  (λ so. let (k, found) = tested.0 so in record {
    before = take k x;
    after = drop (k + length w) x;
    here = sym (take-append-drop k x) ∙ ap (λ z. take k x ++ z) (at_from_reads 0 x w k found.fits found.reads);
  }),
  λ has.
      let rest : drop (length has.before) x ≡ w ++ has.after = front_rest x has.before (w ++ has.after) has.here in
      let long : length has.before + length w ≤ length x =
      omega (arith, ap length has.here, length-append has.before (w ++ has.after), length-append w has.after) in
      tested.1 (length has.before, record { fits = long; reads = at_reads 0 x w (length has.before) has.after rest }),
)

-- a text without a colon doesn't end as a spec
ends_with_a_colon : (x : List ℕ) → Lacks 58 x → ¬ (EndsAsSpec x)
ends_with_a_colon x lacks (inl has) =
    Lacks-here 58 has.before (codes "refs/" ++ has.after) (subst (Lacks 58) has.here lacks)
ends_with_a_colon x lacks (inr ends) = Lacks-here 58 ends.before [] (subst (Lacks 58) ends.here lacks)

-- what looks like a URL doesn't look like a spec
pub url_no_spec : (x : List ℕ) → LooksLike x looks.Url → ¬ (LooksLike x looks.Spec)
url_no_spec x (none, url) (inl certain) = none certain
url_no_spec x (none, url) (inr (no_url, ends)) = no_url url

-- nor does what may be either
pub doubt_no_spec : (x : List ℕ) → LooksLike x looks.Either → ¬ (LooksLike x looks.Spec)
doubt_no_spec x (none, no_url, no_end, colon) (inl certain) = none certain
doubt_no_spec x (none, no_url, no_end, colon) (inr (other, ends)) = no_end ends

-- nor does a plain word
pub plain_no_spec : (x : List ℕ) → LooksLike x looks.Plain → ¬ (LooksLike x looks.Spec)
plain_no_spec x (none, no_url, lacks) (inl certain) = none certain
plain_no_spec x (none, no_url, lacks) (inr (other, ends)) = ends_with_a_colon x lacks ends

-- what looks like a spec is no plain word
pub spec_no_plain : (x : List ℕ) → LooksLike x looks.Spec → ¬ (LooksLike x looks.Plain)
spec_no_plain x spec plain = plain_no_spec x plain spec

-- nor is a URL
pub url_no_plain : (x : List ℕ) → LooksLike x looks.Url → ¬ (LooksLike x looks.Plain)
url_no_plain x (none, url) (other, no_url, lacks) = no_url url

-- nor is what may be either
pub doubt_no_plain : (x : List ℕ) → LooksLike x looks.Either → ¬ (LooksLike x looks.Plain)
doubt_no_plain x (none, no_url, no_end, colon) (other, no_url_, lacks) = Lacks-ContainsText 58 x lacks colon

-- a test that rules something out
pub no_test : (P : Type 0) → ¬ P → IsTrue false ↔ P
no_test P none = ((λ so. absurd (false≢true so)), λ p. absurd (none p))
