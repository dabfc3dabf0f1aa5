-- The names of calls, of layouts, of finaliser actions and of collections
use Rattle.std.specs.Prelude.{List, [], ◌∷◌, ℕ, Option, codes}
use Rattle.az_words.specs.Names.{name_among}
use Rattle.call_words.specs.declared.names.CallName.{CallName}
use Rattle.call_words.specs.declared.names.CallName.TheVariants as names
use Rattle.call_words.specs.declared.keywords.LayoutName.{LayoutName}
use Rattle.call_words.specs.declared.keywords.LayoutName.TheVariants as layout
use Rattle.call_words.specs.declared.keywords.Verb.{Verb}
use Rattle.call_words.specs.declared.keywords.Verb.TheVariants as verb
use Rattle.call_words.specs.declared.keywords.CollectName.{CollectName}
use Rattle.call_words.specs.declared.keywords.CollectName.TheVariants as kind

-- how a call is written
abbrev pub name_text : CallName → List ℕ
name_text names.New = codes "new"
name_text names.Load = codes "load"
name_text names.Store = codes "store"
name_text names.Put = codes "put"
name_text names.Get = codes "get"
name_text names.Copy = codes "copy"
name_text names.Drop = codes "drop"
name_text names.Collect = codes "collect"
name_text names.SetRoot = codes "setroot"
name_text names.GetRoot = codes "getroot"
name_text names.Retain = codes "retain"
name_text names.Release = codes "release"
name_text names.Count = codes "count"
name_text names.Take = codes "take"
name_text names.SetAssoc = codes "setassoc"
name_text names.GetAssoc = codes "getassoc"
name_text names.SetWeak = codes "setweak"
name_text names.ReadWeak = codes "readweak"
name_text names.Stats = codes "stats"

-- all calls that scripts and histories both name
abbrev pub all_names : List CallName
all_names =
    names.New ∷ names.Load ∷ names.Store ∷ names.Put ∷ names.Get ∷ names.Copy ∷ names.Drop ∷ names.Collect ∷ names.SetRoot ∷ names.GetRoot ∷ names.Retain ∷ names.Release ∷ names.Count
    ∷ names.Take ∷ names.SetAssoc ∷ names.GetAssoc ∷ names.SetWeak ∷ names.ReadWeak ∷ names.Stats ∷ []

-- the call that a word names
unfoldable pub name_of : List ℕ → Option CallName
name_of word = name_among name_text all_names word

-- how a kind of layout is written
abbrev pub layout_text : LayoutName → List ℕ
layout_text layout.Scanned = codes "scanned"
layout_text layout.Unscanned = codes "unscanned"
layout_text layout.Object = codes "object"

-- the kind of layout that a word names
unfoldable pub layout_of : List ℕ → Option LayoutName
layout_of word = name_among layout_text (layout.Scanned ∷ layout.Unscanned ∷ layout.Object ∷ []) word

-- how a kind of action is written
abbrev pub verb_text : Verb → List ℕ
verb_text verb.Keep = codes "keep"
verb_text verb.Pass = codes "pass"

-- the kind of action that a word names
unfoldable pub verb_of : List ℕ → Option Verb
verb_of word = name_among verb_text (verb.Keep ∷ verb.Pass ∷ []) word

-- how a kind of collection is written
abbrev pub collect_text : CollectName → List ℕ
collect_text kind.Local = codes "local"
collect_text kind.Young = codes "young"
collect_text kind.Full = codes "full"

-- the kind of collection that a word names
unfoldable pub collect_of : List ℕ → Option CollectName
collect_of word = name_among collect_text (kind.Local ∷ kind.Young ∷ kind.Full ∷ []) word
