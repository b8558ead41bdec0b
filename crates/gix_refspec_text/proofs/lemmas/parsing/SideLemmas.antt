-- Names and patterns as sides, and the reasons to refuse a side.
use Rattle.gix_refspec_text.proofs.Common.{[], arith, ◌≡◌, ◌⊎◌, ℕ, List, ◌∷◌, ◌++◌, Option, None, option_map, unwrap_or}
use Rattle.gix_refspec_text.proofs.Common.{is_some, Bor, false, refl, sym, ◌∙◌, subst, Asterisk, Shape, Plain, Pattern}
use Rattle.gix_refspec_text.proofs.Common.{Lacks, IsName, IsPattern, HasStar, HasSeveralStars, ReplacesStar, HasFault}
use Rattle.gix_refspec_text.proofs.Common.{star, Refusal, PatternUnsupported, ReferenceName, IsBadName, IsBadPattern}
use Rattle.gix_refspec_text.proofs.Common.{Never, NothingAgainst, HasShape, HasCheckedShape, IsBadSide}
use Rattle.gix_refspec_text.proofs.lemmas.texts.TextLemmas.{Lacks-ContainsText, Lacks-from_absent, one_not_two}
use Rattle.gix_refspec_text.proofs.lemmas.lists.LacksLemmas.{first_once}
use Rattle.gix_refspec_text.specs.declared.name.PatternError.TheVariants as found

pub Lacks-name : (x : List ℕ) → IsName x → Lacks star x
Lacks-name x name = Lacks-from_absent star x (name Asterisk)

pub HasStar-pattern : (x : List ℕ) → IsPattern x → HasStar x
HasStar-pattern x pattern = let r = pattern.replaces in record {
  before = r.before;
  after = r.after;
  here =
      r.split.starred;
}

pub HasStar-stars : (x : List ℕ) → HasSeveralStars x → HasStar x
HasStar-stars x stars = record {
  before = stars.before;
  after = stars.between ++ (star ∷ stars.after);
  here =
      stars.here;
}

pub replaced_once : (x y z : List ℕ) → ReplacesStar x y → ReplacesStar x z → y ≡ z
replaced_once x y z a b = grind (arith, first_once)

pub HasSeveralStars-replaced : (x y : List ℕ) → ReplacesStar x y → HasSeveralStars x → ⊥
HasSeveralStars-replaced x y replaces stars = one_not_two star replaces.before replaces.after stars.before stars.between
    stars.after replaces.split.first replaces.split.last (sym replaces.split.starred ∙ stars.here)

pub HasStar-bad : (x : List ℕ) (e : Refusal) → IsBadPattern x e → HasStar x
HasStar-bad x e bad = grind arith

pub pattern_fine : (x : List ℕ) → IsPattern x → Never (IsBadPattern x)
pattern_fine x pattern (PatternUnsupported p) bad = HasSeveralStars-replaced x pattern.with_letter pattern.replaces
    bad.0
pattern_fine x pattern (ReferenceName fault) bad =
    pattern.name fault
    (subst (λ (y : List ℕ). HasFault y fault) (replaced_once x bad.0 pattern.with_letter bad.1 pattern.replaces)
    bad.2)
pattern_fine x pattern _ bad = bad

pub nothing_against : (x : List ℕ) → NothingAgainst x
nothing_against x pattern (found.Name fault) told = absurd (pattern_fine x pattern (ReferenceName fault) told)
nothing_against x pattern found.Memory long = (refl, long)

pub plain_fine : (x : List ℕ) → Lacks star x → Never (IsBadPattern x)
plain_fine x lacks e bad = Lacks-ContainsText star x lacks (HasStar-bad x e bad)

pub name_not_bad : (x : List ℕ) → IsName x → (e : Refusal) → IsBadName x e ⊎ IsBadPattern x e → ⊥
name_not_bad x name e h = grind (arith, plain_fine, Lacks-name)

pub pattern_not_bad : (x : List ℕ) → IsPattern x → (e : Refusal) → IsBadName x e ⊎ IsBadPattern x e → ⊥
pattern_not_bad x pattern e h = grind (arith, Lacks-ContainsText, pattern_fine)

pub checked_fine : (x : List ℕ) (k : Shape) → HasCheckedShape x k → Never (IsBadSide x)
checked_fine [] k fine e bad = bad.0 refl
checked_fine (b ∷ bs) Plain fine e bad = name_not_bad (b ∷ bs) fine e bad.1
checked_fine (b ∷ bs) Pattern fine e bad = pattern_not_bad (b ∷ bs) fine e bad.1

pub empty_no_pattern : IsPattern [] → ⊥
empty_no_pattern pattern = Lacks-ContainsText star [] tt (HasStar-pattern [] pattern)

pub checked_starred : (x : List ℕ) (k : Shape) → HasCheckedShape x k → HasShape x k
checked_starred x k fine = grind (arith, Lacks-name)

-- the bytes of an optional reference, or of an empty one in its place
pub now-unwrap_or : (d : Option (Bor (List ℕ))) (e x : Bor (List ℕ)) → x ≡ unwrap_or d e → e.now ≡ []
    → x.now ≡ unwrap_or (option_map (λ (y : Bor (List ℕ)). y.now) d) []
now-unwrap_or d e x is empty = grind arith

pub none_from_test : (d : Option (Bor (List ℕ))) → false ≡ is_some d → option_map (λ (y : Bor (List ℕ)). y.now) d ≡ None
none_from_test d test = grind arith
