-- Keys that need a value, and keys that don't: each was tried with Git 2.39.5.
use Rattle.std.proofs.Common.{◌≡◌, ◌∙◌, ℕ, List, inl, inr, codes, get_or, refl, sym, ap, arith}
use Rattle.gix_refspec_text.proofs.readers.Texts.{Lacks-tested, differ}
use Rattle.refspec_request.specs.Needed.{IsNeededOfRemote, NeedsValue}
use Rattle.refspec_request.specs.Settings.{IsKey}
use Rattle.refspec_request.proofs.SettingLemmas.{key_once}

merge_of_m : IsKey (codes "branch") (codes "m") (codes "merge") (codes "branch.m.merge")
merge_of_m = record { parts = refl; last = Lacks-tested 46 (codes "merge") refl }

base : IsKey (codes "url") (codes "b") (codes "insteadof") (codes "url.b.insteadof")
base = record { parts = refl; last = Lacks-tested 46 (codes "insteadof") refl }

url_of_o : IsKey (codes "remote") (codes "o") (codes "url") (codes "remote.o.url")
url_of_o = record { parts = refl; last = Lacks-tested 46 (codes "url") refl }

prune_of_o : IsKey (codes "remote") (codes "o") (codes "prune") (codes "remote.o.prune")
prune_of_o = record { parts = refl; last = Lacks-tested 46 (codes "prune") refl }

-- a URL, the ref that a branch merges, and the remote of pushes need a value, and a boolean doesn't
pub needed : NeedsValue (codes "remote.pushdefault") × NeedsValue (codes "branch.m.merge")
    × NeedsValue (codes "url.b.insteadof") × NeedsValue (codes "remote.o.url") × ¬ (NeedsValue (codes "remote.o.prune"))
needed = (
  inl refl,
  inr (inl (codes "m", codes "merge", merge_of_m, inr (inr refl))),
  inr (inr (inl (codes "b", codes "insteadof", base, inl refl))),
  inr (inr (inr (codes "o", codes "url", url_of_o, inl refl))),
  no_boolean,
)
  where
    none : (v : List ℕ) → v ≡ codes "prune" → IsNeededOfRemote v → ⊥
    none v e (inl is) = differ (codes "prune") (codes "url") refl (sym e ∙ is)
    none v e (inr (inl is)) = differ (codes "prune") (codes "pushurl") refl (sym e ∙ is)
    none v e (inr (inr (inl is))) = differ (codes "prune") (codes "receivepack") refl (sym e ∙ is)
    none v e (inr (inr (inr (inl is)))) = differ (codes "prune") (codes "uploadpack") refl (sym e ∙ is)
    none v e (inr (inr (inr (inr (inl is))))) = differ (codes "prune") (codes "proxy") refl (sym e ∙ is)
    none v e (inr (inr (inr (inr (inr (inl is)))))) = differ (codes "prune") (codes "proxyauthmethod") refl (sym e ∙ is)
    none v e (inr (inr (inr (inr (inr (inr (inl is))))))) = differ (codes "prune") (codes "vcs") refl (sym e ∙ is)
    none v e (inr (inr (inr (inr (inr (inr (inr is))))))) = differ (codes "prune") (codes "tagopt") refl (sym e ∙ is)

    no_boolean : NeedsValue (codes "remote.o.prune") → ⊥
    no_boolean (inl is) = differ (codes "remote.o.prune") (codes "remote.pushdefault") refl is
    no_boolean (inr (inl (n, v, is, what))) = omega (arith, ap (λ (l : List ℕ). get_or l 0 0) is.parts)
    no_boolean (inr (inr (inl (n, v, is, what)))) = omega (arith, ap (λ (l : List ℕ). get_or l 0 0) is.parts)
    no_boolean (inr (inr (inr (n, v, is, what)))) =
        none v (key_once _ _ n v (codes "o") (codes "prune") is prune_of_o).1 what
