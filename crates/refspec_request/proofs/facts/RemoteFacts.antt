-- Settings of remotes and of others, by git-config(1).
use Rattle.std.proofs.Common.{◌≡◌, ◌⊎◌, ◌∙◌, ◌∷◌, [], ℕ, List, inl, inr, codes, refl, sym, ap, subst, arith, get_or}
use Rattle.std.proofs.Common.{true, false}
use Rattle.gix_refspec_text.specs.Texts.Words.{BeginsWith}
use Rattle.gix_refspec_text.proofs.readers.Texts.{Lacks-tested, begins, begins_not, differ}
use Rattle.refspec_request.specs.Booleans.{IsBooleanOfFetches, IsBooleanOfRemotes, IsRemoteBoolean}
use Rattle.refspec_request.specs.Remotes.{IsIgnored, IsOfOther, IsOfRemote, Rewrites, SaysWhere, is_between}
use Rattle.refspec_request.specs.Remotes.{members_of, members_text}
use Rattle.refspec_request.specs.Settings.{IsKey}
use Rattle.refspec_request.proofs.SettingLemmas.{key_once}
use Rattle.refspec_request.proofs.facts.SettingFacts.{bare, valued}

fetch_of_o : IsKey (codes "remote") (codes "o") (codes "fetch") (codes "remote.o.fetch")
fetch_of_o = record { parts = refl; last = Lacks-tested 46 (codes "fetch") refl }

url_of_o : IsKey (codes "remote") (codes "o") (codes "url") (codes "remote.o.url")
url_of_o = record { parts = refl; last = Lacks-tested 46 (codes "url") refl }

base : IsKey (codes "url") (codes "https://h/") (codes "insteadof") (codes "url.https://h/.insteadof")
base = record { parts = refl; last = Lacks-tested 46 (codes "insteadof") refl }

slash : IsKey (codes "remote") (codes "/o") (codes "url") (codes "remote./o.url")
slash = record { parts = refl; last = Lacks-tested 46 (codes "url") refl }

-- a setting of one remote is of no other
pub of_remotes : IsOfRemote (codes "o") (bare (codes "remote.o.fetch"))
    × ¬ (IsOfRemote (codes "p") (bare (codes "remote.o.fetch")))
    × IsOfOther (codes "p") (bare (codes "remote.o.fetch")) × ¬ (IsOfOther (codes "o") (bare (codes "remote.o.fetch")))
of_remotes = (
  (codes "o", codes "fetch", fetch_of_o, refl),
  (λ (n, v, is, same). differ (codes "o") (codes "p") refl
      (sym (key_once _ _ n v (codes "o") (codes "fetch") is fetch_of_o).0 ∙ same)),
  (codes "o", codes "fetch", fetch_of_o, differ (codes "o") (codes "p") refl),
  λ (n, v, is, other). other (key_once _ _ n v (codes "o") (codes "fetch") is fetch_of_o).0,
)

-- a URL says where a remote is, and a fetch value doesn't
pub places : SaysWhere (codes "o") (valued (codes "remote.o.url") (codes "u"))
    × ¬ (SaysWhere (codes "o") (valued (codes "remote.o.fetch") (codes "u")))
places = (
  (codes "o", codes "url", url_of_o, (refl, inl refl)),
  λ (n, v, is, (same, what)). let e = (key_once _ _ n v (codes "o") (codes "fetch") is fetch_of_o).1 in neither v e
      what,
)
  where
    neither : (v : List ℕ) → v ≡ codes "fetch" → (v ≡ codes "url") ⊎ (v ≡ codes "vcs") → ⊥
    neither v e (inl is) = differ (codes "fetch") (codes "url") refl (sym e ∙ is)
    neither v e (inr is) = differ (codes "fetch") (codes "vcs") refl (sym e ∙ is)

-- a value that the URL begins with rewrites it, also an empty one; another one and a missing one don't
pub rewritten : Rewrites (codes "gh:x") (valued (codes "url.https://h/.insteadof") (codes "gh:"))
    × Rewrites (codes "gh:x") (valued (codes "url.https://h/.insteadof") [])
    × ¬ (Rewrites (codes "hg:x") (valued (codes "url.https://h/.insteadof") (codes "gh:")))
    × ¬ (Rewrites (codes "gh:x") (bare (codes "url.https://h/.insteadof")))
rewritten = (
  ((codes "https://h/", codes "insteadof", base, refl), begins (codes "gh:") (codes "gh:x") refl),
  ((codes "https://h/", codes "insteadof", base, refl), begins [] (codes "gh:x") refl),
  (λ r. begins_not (codes "gh:") (codes "hg:x") refl r.1),
  λ r. r.1,
)

-- Git ignores remotes whose names begin with a slash
pub ignored : IsIgnored (bare (codes "remote./o.url")) × ¬ (IsIgnored (bare (codes "remote.o.url")))
ignored = (
  (codes "/o", codes "url", slash, begins (codes "/") (codes "/o") refl),
  λ (n, v, is, begin). begins_not (codes "/") (codes "o") refl
      (subst (BeginsWith (codes "/")) (key_once _ _ n v (codes "o") (codes "url") is url_of_o).0 begin),
)

prune_of_o : IsKey (codes "remote") (codes "o") (codes "prune") (codes "remote.o.prune")
prune_of_o = record { parts = refl; last = Lacks-tested 46 (codes "prune") refl }

-- the booleans of remotes and of fetches, and neither another variable nor another section
pub booleans : IsBooleanOfRemotes (codes "remote.o.prune") × ¬ (IsBooleanOfRemotes (codes "remote.o.fetch"))
    × ¬ (IsBooleanOfRemotes (codes "branch.o.prune")) × IsBooleanOfFetches (codes "fetch.prune")
    × ¬ (IsBooleanOfFetches (codes "fetch.all"))
booleans = (
  (codes "o", codes "prune", prune_of_o, inl refl),
  (λ (n, v, is, what). none v (key_once _ _ n v (codes "o") (codes "fetch") is fetch_of_o).1 what),
  (λ (n, v, is, what). omega (arith, ap (λ (l : List ℕ). get_or l 0 0) is.parts)),
  inl refl,
  no_fetch,
)
  where
    none : (v : List ℕ) → v ≡ codes "fetch" → IsRemoteBoolean v → ⊥
    none v e (inl is) = differ (codes "fetch") (codes "prune") refl (sym e ∙ is)
    none v e (inr (inl is)) = differ (codes "fetch") (codes "prunetags") refl (sym e ∙ is)
    none v e (inr (inr (inl is))) = differ (codes "fetch") (codes "mirror") refl (sym e ∙ is)
    none v e (inr (inr (inr (inl is)))) = differ (codes "fetch") (codes "skipdefaultupdate") refl (sym e ∙ is)
    none v e (inr (inr (inr (inr is)))) = differ (codes "fetch") (codes "skipfetchall") refl (sym e ∙ is)

    no_fetch : IsBooleanOfFetches (codes "fetch.all") → ⊥
    no_fetch (inl is) = differ (codes "fetch.all") (codes "fetch.prune") refl is
    no_fetch (inr is) = differ (codes "fetch.all") (codes "fetch.prunetags") refl is

-- the value that lists remotes of a group, and nothing of another group, of a remote and of a key without a value
pub group_texts : (members_text (codes "g") (valued (codes "remotes.g") (codes "o p")) ≡ codes "o p")
    × (members_text (codes "g") (valued (codes "remotes.h") (codes "o p")) ≡ [])
    × (members_text (codes "g") (valued (codes "remote.g.url") (codes "o p")) ≡ [])
    × (members_text (codes "g") (bare (codes "remotes.g")) ≡ [])
group_texts = (refl, refl, refl, refl)

-- the remotes of a group, of each of its settings and of no other
pub members : members_of (codes "g") (valued (codes "remotes.g") (codes " o\tp\n") ∷
    (valued (codes "remotes.h") (codes "q") ∷ (bare (codes "remotes.g") ∷
    (valued (codes "remotes.g") (codes "r") ∷ []))))
    ≡ codes "o" ∷ (codes "p" ∷ (codes "r" ∷ []))
members = refl

-- a space, a tab and a newline are between remotes, and a comma and a carriage return are not
pub between : (is_between 32 ≡ true) × (is_between 9 ≡ true) × (is_between 10 ≡ true) × (is_between 44 ≡ false)
    × (is_between 13 ≡ false)
between = (refl, refl, refl, refl, refl)
