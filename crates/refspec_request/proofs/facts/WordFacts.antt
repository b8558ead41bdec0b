-- Arguments that look like specs, URLs and paths, both or neither, as git-fetch(1) has them under GIT URLS and
-- <refspec>.
use Rattle.std.proofs.Common.{◌≡◌, ◌==◌, ◌⊎◌, inl, inr, ℕ, nat_eq, false, bytes_eq, List, [], ◌∷◌, ◌++◌}
use Rattle.std.proofs.Common.{codes}
use Rattle.std.proofs.Common.{refl, sym, subst}
use Rattle.std.specs.List.{list_any, starts_with}
use Rattle.gix_refspec_text.specs.Texts.Words.{BeginsWith, ContainsText, Lacks}
use Rattle.gix_refspec_text.proofs.lemmas.lists.LacksLemmas.{Lacks-here, first_once}
use Rattle.gix_refspec_text.proofs.readers.Texts.{Lacks-tested, begins, begins_not, contains, differ, holds, holds_not}
use Rattle.refspec_request.proofs.WordLemmas.{ends_tested}
use Rattle.refspec_request.proofs.SettingLemmas.{not_so}
use Rattle.refspec_request.specs.declared.choice.Looks.TheVariants as looks
use Rattle.refspec_request.specs.Words.{BeginsAsPath, EndsAsSpec, HasHost, IsCertainlySpec, IsUrl, LooksLike}

-- no certain spec, by tests of its start and for a star
uncertain : (x : List ℕ) → bytes_eq x [] ≡ false → starts_with nat_eq x (codes "+") ≡ false
    → starts_with nat_eq x (codes "^") ≡ false
    → starts_with nat_eq x (codes "refs/") ≡ false → holds (codes "*") x ≡ false → ¬ (IsCertainlySpec x)
uncertain x full plus caret refs star (inl (inl empty)) = differ x [] full empty
uncertain x full plus caret refs star (inl (inr (inl is))) = begins_not (codes "+") x plus is
uncertain x full plus caret refs star (inl (inr (inr (inl is)))) = begins_not (codes "^") x caret is
uncertain x full plus caret refs star (inl (inr (inr (inr is)))) = begins_not (codes "refs/") x refs is
uncertain x full plus caret refs star (inr is) = holds_not (codes "*") x star is

-- no path, by tests of its start
pathless : (x : List ℕ) → bytes_eq x (codes ".") ≡ false → bytes_eq x (codes "..") ≡ false
    → starts_with nat_eq x (codes "/") ≡ false
    → starts_with nat_eq x (codes "./") ≡ false → starts_with nat_eq x (codes "../") ≡ false → ¬ (BeginsAsPath x)
pathless x one two root here above (inl is) = differ x (codes ".") one is
pathless x one two root here above (inr (inl is)) = differ x (codes "..") two is
pathless x one two root here above (inr (inr (inl is))) = begins_not (codes "/") x root is
pathless x one two root here above (inr (inr (inr (inl is)))) = begins_not (codes "./") x here is
pathless x one two root here above (inr (inr (inr (inr is)))) = begins_not (codes "../") x above is

-- no host, by tests of what precedes and follows the first colon
tells_none : (before after b a : List ℕ) → starts_with nat_eq after (codes "//") ≡ false
    → starts_with nat_eq after (codes ":") ≡ false → holds (codes "@") before ≡ false → b ≡ before → a ≡ after
    → BeginsWith (codes "//") a ⊎ BeginsWith (codes ":") a ⊎ ContainsText (codes "@") b → ⊥
tells_none before after b a slashes colon user is_b is_a (inl is) =
    begins_not (codes "//") after slashes (subst (BeginsWith (codes "//")) is_a is)
tells_none before after b a slashes colon user is_b is_a (inr (inl is)) =
    begins_not (codes ":") after colon (subst (BeginsWith (codes ":")) is_a is)
tells_none before after b a slashes colon user is_b is_a (inr (inr is)) =
    holds_not (codes "@") before user (subst (ContainsText (codes "@")) is_b is)

hostless : (before after : List ℕ) → Lacks 58 before → starts_with nat_eq after (codes "//") ≡ false
    → starts_with nat_eq after (codes ":") ≡ false → holds (codes "@") before ≡ false
    → ¬ (HasHost (before ++ (58 ∷ after)))
hostless before after lacks slashes colon user host =
    let same = first_once 58 before host.before after host.after lacks host.first host.parts in
    tells_none before after host.before host.after slashes colon user (sym same.0) (sym same.1) host.host

-- a text without a colon has no host
without_colon : (x : List ℕ) → list_any (λ c. c == 58) x ≡ false → ¬ (HasHost x)
without_colon x none host = Lacks-here 58 host.before host.after (subst (Lacks 58) host.parts (Lacks-tested 58 x none))

no_url : (x : List ℕ) → ¬ (BeginsAsPath x) → ¬ (HasHost x) → ¬ (IsUrl x)
no_url x no_path no_host (inl path) = no_path path
no_url x no_path no_host (inr host) = no_host host

-- specs: the empty one, forced and negative ones, full names, patterns, and those with a full destination or an empty
-- one
pub specs : LooksLike [] looks.Spec × LooksLike (codes "+main") looks.Spec × LooksLike (codes "^a") looks.Spec
    × LooksLike (codes "refs/a") looks.Spec
    × LooksLike (codes "https://host/*") looks.Spec × LooksLike (codes "a:refs/b") looks.Spec
    × LooksLike (codes "a:") looks.Spec
specs = (
  inl (inl (inl refl)),
  inl (inl (inr (inl (begins (codes "+") (codes "+main") refl)))),
  inl (inl (inr (inr (inl (begins (codes "^") (codes "^a") refl))))),
  inl (inl (inr (inr (inr (begins (codes "refs/") (codes "refs/a") refl))))),
  inl (inr (contains (codes "*") (codes "https://host/*") refl)),
  inr (
    no_url (codes "a:refs/b") (pathless (codes "a:refs/b") refl refl refl refl refl)
        (hostless (codes "a") (codes "refs/b") (Lacks-tested 58 (codes "a") refl) refl refl refl),
    inl
        (contains (codes ":refs/") (codes "a:refs/b") refl),
  ),
  inr (
    no_url (codes "a:") (pathless (codes "a:") refl refl refl refl refl)
        (hostless (codes "a") [] (Lacks-tested 58 (codes "a") refl) refl refl refl),
    inr
        (record { before = codes "a"; here = refl }),
  ),
)

-- URLs and paths: with a scheme, a helper, a user, and those that begin as paths
pub urls : LooksLike (codes "https://h/p") looks.Url × LooksLike (codes "ext::c") looks.Url
    × LooksLike (codes "me@h:p") looks.Url
    × LooksLike (codes ".") looks.Url × LooksLike (codes "../p") looks.Url × LooksLike (codes "/p") looks.Url
urls = (
  (
    uncertain (codes "https://h/p") refl refl refl refl refl,
    inr
        (record {
          before = codes "https";
          after = codes "//h/p";
          parts = refl;
          first = Lacks-tested 58 (codes "https")
              refl;
          host = inl (begins (codes "//") (codes "//h/p") refl);
        }),
  ),
  (
    uncertain (codes "ext::c") refl refl refl refl refl,
    inr
        (record {
          before = codes "ext";
          after = codes ":c";
          parts = refl;
          first = Lacks-tested 58 (codes "ext") refl;
          host = inr (inl (begins (codes ":") (codes ":c") refl));
        }),
  ),
  (
    uncertain (codes "me@h:p") refl refl refl refl refl,
    inr
        (record {
          before = codes "me@h";
          after = codes "p";
          parts = refl;
          first = Lacks-tested 58 (codes "me@h") refl;
          host = inr (inr (contains (codes "@") (codes "me@h") refl));
        }),
  ),
  (uncertain (codes ".") refl refl refl refl refl, inl (inl refl)),
  (
    uncertain (codes "../p") refl refl refl refl refl,
    inl
        (inr (inr (inr (inr (begins (codes "../") (codes "../p") refl))))),
  ),
  (uncertain (codes "/p") refl refl refl refl refl, inl (inr (inr (inl (begins (codes "/") (codes "/p") refl))))),
)

-- a host without a user, and a plain word that begins with a dot
pub others : LooksLike (codes "h:p") looks.Either × LooksLike (codes ".p") looks.Plain
others = (
  (
    uncertain (codes "h:p") refl refl refl refl refl,
    no_url (codes "h:p") (pathless (codes "h:p") refl refl refl refl refl)
        (hostless (codes "h") (codes "p") (Lacks-tested 58 (codes "h") refl) refl refl refl),
    no_end,
    contains (codes ":") (codes "h:p") refl,
  ),
  (
    uncertain (codes ".p") refl refl refl refl refl,
    no_url (codes ".p") (pathless (codes ".p") refl refl refl refl refl) (without_colon (codes ".p") refl),
    Lacks-tested 58 (codes ".p") refl,
  ),
)
  where
    no_end : EndsAsSpec (codes "h:p") → ⊥
    no_end (inl is) = holds_not (codes ":refs/") (codes "h:p") refl is
    no_end (inr ends) = not_so _ (ends_tested (codes ":") (codes "h:p") false refl) ends
