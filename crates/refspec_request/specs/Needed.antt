-- The settings at which Git stops if they have no value, by git-config(1): the value of each is a name, a URL, a
-- command or an option. Git 2.39.5 crashes at remote.<name>.tagOpt.
use Rattle.std.specs.Prelude.{◌≡◌, ◌⊎◌, ℕ, List, codes}
use Rattle.refspec_request.specs.Settings.{IsKeyWhere}

-- the variables of a branch: branch.<name>.remote, pushRemote and merge. Git prints variables in lower case
abbrev pub IsNeededOfBranch : List ℕ → Type 0
IsNeededOfBranch variable = (variable ≡ codes "remote") ⊎ (variable ≡ codes "pushremote") ⊎ (variable ≡ codes "merge")

-- those of a base of URLs: url.<base>.insteadOf and pushInsteadOf
abbrev pub IsNeededOfBase : List ℕ → Type 0
IsNeededOfBase variable = (variable ≡ codes "insteadof") ⊎ (variable ≡ codes "pushinsteadof")

-- those of a remote: remote.<name>.url, pushurl, receivepack, uploadpack, proxy, proxyAuthMethod, vcs and tagOpt. Its
-- refspecs need a value too, which is said elsewhere
abbrev pub IsNeededOfRemote : List ℕ → Type 0
IsNeededOfRemote variable = (variable ≡ codes "url") ⊎ (variable ≡ codes "pushurl") ⊎ (variable ≡ codes "receivepack")
    ⊎ (variable ≡ codes "uploadpack") ⊎ (variable ≡ codes "proxy") ⊎ (variable ≡ codes "proxyauthmethod")
    ⊎ (variable ≡ codes "vcs") ⊎ (variable ≡ codes "tagopt")

-- the key is remote.pushDefault, or one of these, of any branch, base of URLs or remote
abbrev pub NeedsValue : List ℕ → Type 0
NeedsValue key = (key ≡ codes "remote.pushdefault")
    ⊎ IsKeyWhere (codes "branch") (λ name variable. IsNeededOfBranch variable) key
    ⊎ IsKeyWhere (codes "url") (λ base variable. IsNeededOfBase variable) key
    ⊎ IsKeyWhere (codes "remote") (λ name variable. IsNeededOfRemote variable) key
