-- Identifiers, keywords and names (IEEE 1364-2001, section 2.7 and annex B).
use Rattle.std.specs.Prelude.{ℕ, Bool, false, ◌||◌, ◌&&◌, not, List, [], ◌∷◌, IsTrue, bytes_eq, codes}
use Rattle.std.specs.List.{list_any, list_all}
use Rattle.rst_lex.specs.Bytes.{is_name_start, is_name_byte}

-- the keywords that the profile reads
abbrev pub keywords : List (List ℕ)
keywords = codes "module" ∷ codes "endmodule" ∷ codes "input" ∷ codes "output" ∷ codes "wire" ∷ codes "reg"
    ∷ codes "signed" ∷ codes "parameter" ∷ codes "localparam" ∷ codes "assign" ∷ codes "always" ∷ codes "posedge"
    ∷ codes "negedge" ∷ codes "or" ∷ codes "begin" ∷ codes "end" ∷ codes "if" ∷ codes "else"
    ∷ codes "case" ∷ codes "casez" ∷ codes "default" ∷ codes "endcase" ∷ []

-- the keywords of the standard that the profile refuses
abbrev pub refused_keywords : List (List ℕ)
refused_keywords = codes "and" ∷ codes "automatic" ∷ codes "buf" ∷ codes "bufif0" ∷ codes "bufif1" ∷ codes "casex"
    ∷ codes "cmos" ∷ codes "deassign" ∷ codes "defparam" ∷ codes "disable" ∷ codes "edge" ∷ codes "endfunction"
    ∷ codes "endgenerate" ∷ codes "endprimitive" ∷ codes "endspecify" ∷ codes "endtable" ∷ codes "endtask" ∷ codes "event"
    ∷ codes "for" ∷ codes "force" ∷ codes "forever" ∷ codes "fork" ∷ codes "function" ∷ codes "generate"
    ∷ codes "genvar" ∷ codes "highz0" ∷ codes "highz1" ∷ codes "ifnone" ∷ codes "initial" ∷ codes "inout"
    ∷ codes "integer" ∷ codes "join" ∷ codes "large" ∷ codes "macromodule" ∷ codes "medium" ∷ codes "nand"
    ∷ codes "nmos" ∷ codes "nor" ∷ codes "not" ∷ codes "notif0" ∷ codes "notif1" ∷ codes "pmos"
    ∷ codes "primitive" ∷ codes "pull0" ∷ codes "pull1" ∷ codes "pulldown" ∷ codes "pullup" ∷ codes "rcmos"
    ∷ codes "real" ∷ codes "realtime" ∷ codes "release" ∷ codes "repeat" ∷ codes "rnmos" ∷ codes "rpmos"
    ∷ codes "rtran" ∷ codes "rtranif0" ∷ codes "rtranif1" ∷ codes "scalared" ∷ codes "small" ∷ codes "specify"
    ∷ codes "specparam" ∷ codes "strong0" ∷ codes "strong1" ∷ codes "supply0" ∷ codes "supply1" ∷ codes "table"
    ∷ codes "task" ∷ codes "time" ∷ codes "tran" ∷ codes "tranif0" ∷ codes "tranif1" ∷ codes "tri"
    ∷ codes "tri0" ∷ codes "tri1" ∷ codes "triand" ∷ codes "trior" ∷ codes "trireg" ∷ codes "vectored"
    ∷ codes "wait" ∷ codes "wand" ∷ codes "weak0" ∷ codes "weak1" ∷ codes "while" ∷ codes "wor"
    ∷ codes "xnor" ∷ codes "xor" ∷ []

-- the bytes are one of the words
abbrev pub is_listed : List (List ℕ) → List ℕ → Bool
is_listed words bytes = list_any (λ word. bytes_eq word bytes) words

-- a keyword that the profile reads
unfoldable pub is_profile_keyword : List ℕ → Bool
is_profile_keyword bytes = is_listed keywords bytes

-- a keyword that the profile refuses
unfoldable pub is_refused_keyword : List ℕ → Bool
is_refused_keyword bytes = is_listed refused_keywords bytes

abbrev pub is_keyword : List ℕ → Bool
is_keyword bytes = is_profile_keyword bytes || is_refused_keyword bytes

-- An identifier is a letter or _, and then letters, digits, _ and $.
abbrev pub is_identifier : List ℕ → Bool
is_identifier [] = false
is_identifier (b ∷ bs) = is_name_start b && list_all is_name_byte bs

-- A name is an identifier that is no keyword.
abbrev pub is_name : List ℕ → Bool
is_name bytes = is_identifier bytes && not (is_keyword bytes)

abbrev pub IsIdentifier : List ℕ → Type 0
IsIdentifier bytes = IsTrue (is_identifier bytes)

abbrev pub IsKeyword : List ℕ → Type 0
IsKeyword bytes = IsTrue (is_keyword bytes)

abbrev pub IsName : List ℕ → Type 0
IsName bytes = IsTrue (is_name bytes)
